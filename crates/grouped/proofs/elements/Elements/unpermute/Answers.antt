use Rattle.std.proofs.Common.{◌≡◌, ℕ, ◌+◌, ◌*◌, ◌/◌, List, length, get_or, set, ◌∙◌, ap, arith}
use Rattle.std.proofs.lemmas.List.{get_or-take, get_or-drop}
use Rattle.byte_strings.proofs.Over.{over_all}
use Rattle.jh.specs.Inverse.{unpermute}
use Rattle.jh.proofs.Moves.{length_unpermute, gather_more}
use Rattle.jh.proofs.Turns.{unpermuted}
use Rattle.grouped.proofs.Rows.{in_chunk}
use Rattle.grouped.proofs.elements.Elements.unpermute.Goals as goal

pub loop-i-preserved : goal.loop-i-preserved
loop-i-preserved g c =
    let xs : List ℕ = c.self.inside.places in
    let ys : List ℕ = c.loop-i.self-inside.places in
    let i : ℕ = c.loop-i.i in
    let h : ℕ = g.row.N / 2 in
    let l = c.self.invariant.1.long in
    let four = c.self.invariant.0 in
    let low : List ℕ = c.split_at.result.0.now in
    let high : List ℕ = c.split_at.result.1.now in
    let m : length low ≡ h = c.split_at.ensures.front_len in
    let n : length high + h ≡ length xs = c.split_at.ensures.back_len in
    let k = c.as_chunks-2.ensures.front_len in
    let at_low = in_chunk 2 (length low / 2) low c.as_chunks-2.result.0.now c.as_chunks-2.ensures.front i in
    let at_high = in_chunk 2 (length high / 2) high c.as_chunks.result.0.now c.as_chunks.ensures.front i in
    let a = at_low 0 (2 * i) (omega arith) (omega arith) (omega arith)
    ∙ ap (λ (zs : List ℕ). get_or zs (2 * i) 0) c.split_at.ensures.front ∙ get_or-take h xs (2 * i) 0 (omega arith) in
    let d = at_low 1 (2 * i + 1) (omega arith) (omega arith) (omega arith)
    ∙ ap (λ (zs : List ℕ). get_or zs (2 * i + 1) 0) c.split_at.ensures.front ∙ get_or-take h xs (2 * i + 1) 0 (omega arith) in
    let q = at_high 0 (2 * i) (omega arith) (omega arith) (omega arith)
    ∙ ap (λ (zs : List ℕ). get_or zs (2 * i) 0) c.split_at.ensures.back ∙ get_or-drop h xs (2 * i) 0 in
    let b = at_high 1 (2 * i + 1) (omega arith) (omega arith) (omega arith)
    ∙ ap (λ (zs : List ℕ). get_or zs (2 * i + 1) 0) c.split_at.ensures.back ∙ get_or-drop h xs (2 * i + 1) 0
    ∙ ap (λ (p : ℕ). get_or xs p 0) (let t : h + (2 * i + 1) ≡ h + 2 * i + 1 = omega arith in t) in
    (λ j. set (set (set (set ys (4 * i) (a j)) (4 * i + 1) (b j)) (4 * i + 2) (q j)) (4 * i + 3) (d j))
    ∙ gather_more g.row.N xs four l i (omega arith) ys c.loop-i.invariant

pub invariant_of-self : goal.invariant_of-self
invariant_of-self g c =
    let xs = c.self.inside.places in
    let f = c.self.invariant.0 in
    let l = c.self.invariant.1.long in
    let m = c.split_at.ensures.front_len in
    let k = c.as_chunks-2.ensures.front_len in
    let n = length_unpermute g.row.N xs f l in (
      f,
      unpermuted g.row.N xs c.loop-i.self-inside.places c.self.invariant.1 f
          (c.loop-i.invariant ∙ over_all (4 * c.loop-i.i) (unpermute xs) xs (omega arith) (omega arith)),
    )

pub returns : goal.returns
returns g c =
    let xs = c.self.inside.places in
    let f = c.self.invariant.0 in
    let l = c.self.invariant.1.long in
    let m = c.split_at.ensures.front_len in
    let k = c.as_chunks-2.ensures.front_len in
    let n = length_unpermute g.row.N xs f l in
    c.loop-i.invariant ∙ over_all (4 * c.loop-i.i) (unpermute xs) xs (omega arith) (omega arith) ∙ ap unpermute c.self.view_is
