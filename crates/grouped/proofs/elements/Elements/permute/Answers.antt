use Rattle.std.proofs.Common.{◌≡◌, ℕ, ◌+◌, ◌*◌, ◌/◌, List, length, set, ap, ◌∙◌, arith}
use Rattle.jh.specs.Round.{permute}
use Rattle.jh.proofs.Moves.{moving, moving_none, moving_more, moving_all}
use Rattle.jh.proofs.Turns.{permuted}
use Rattle.grouped.proofs.Rows.{in_chunk}
use Rattle.grouped.proofs.elements.Elements.permute.Goals as goal

pub loop-i-init : goal.loop-i-init
loop-i-init g c = moving_none (g.row.N / 2) c.self.inside.places

pub loop-i-preserved : goal.loop-i-preserved
loop-i-preserved g c =
    let xs : List ℕ = c.self.inside.places in
    let ys : List ℕ = c.loop-i.self-inside.places in
    let i : ℕ = c.loop-i.i in
    let h : ℕ = g.row.N / 2 in
    let n = c.as_chunks.ensures.front_len in
    let l = c.self.invariant.1.long in
    let at = in_chunk 4 (length xs / 4) xs c.as_chunks.result.0.now c.as_chunks.ensures.front i in
    let a = at 0 (4 * i) (omega arith) (omega arith) (omega arith) in
    let b = at 1 (4 * i + 1) (omega arith) (omega arith) (omega arith) in
    let e = at 2 (4 * i + 2) (omega arith) (omega arith) (omega arith) in
    let d = at 3 (4 * i + 3) (omega arith) (omega arith) (omega arith) in
    (λ j. set (set (set (set ys (2 * i) (a j)) (2 * i + 1) (d j)) (h + 2 * i) (e j)) (h + 2 * i + 1) (b j))
    ∙ moving_more g.row.N xs c.self.invariant.0 l i (omega arith) ys c.loop-i.invariant

pub invariant_of-self : goal.invariant_of-self
invariant_of-self g c =
    let xs = c.self.inside.places in
    let f = c.self.invariant.0 in
    let l = c.self.invariant.1.long in
    let n = c.as_chunks.ensures.front_len in
    let e : c.loop-i.i ≡ g.row.N / 4 = omega arith in (
      f,
      permuted g.row.N xs c.loop-i.self-inside.places c.self.invariant.1 f
          (c.loop-i.invariant ∙ ap (λ (i : ℕ). moving (g.row.N / 2) i xs) e ∙ moving_all g.row.N xs f l),
    )

pub returns : goal.returns
returns g c =
    let xs = c.self.inside.places in
    let f = c.self.invariant.0 in
    let l = c.self.invariant.1.long in
    let n = c.as_chunks.ensures.front_len in
    let e : c.loop-i.i ≡ g.row.N / 4 = omega arith in
    c.loop-i.invariant ∙ ap (λ (i : ℕ). moving (g.row.N / 2) i xs) e ∙ moving_all g.row.N xs f l ∙ ap permute c.self.view_is
