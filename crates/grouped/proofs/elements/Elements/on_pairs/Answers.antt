use Rattle.std.proofs.Common.{◌≡◌, ℕ, ◌+◌, ◌*◌, ◌/◌, ◌<◌, List, [], length, get_or, set, sym, ◌∙◌, subst, arith}
use Rattle.std.specs.Simd.{first_chunks}
use Rattle.std.proofs.ByRecursion.{All-get_or}
use Rattle.std.proofs.lemmas.List.{length-set}
use Rattle.jh.specs.Row.{Row}
use Rattle.grouped.specs.Pairs.{EachPair}
use Rattle.grouped.proofs.Rows.{in_chunk, pairs_row, pair_more}
use Rattle.grouped.proofs.elements.Elements.on_pairs.Goals as goal

-- pair i of a row that is read in chunks
chunked : (xs : List ℕ) (chunks : List (List ℕ)) (i : ℕ) → chunks ≡ first_chunks 2 (length xs / 2) xs → length chunks ≡ length xs / 2 → i < length chunks
    → ◌≡◌ {A = ℕ × ℕ} (get_or (get_or chunks i []) 0 0, get_or (get_or chunks i []) 1 0) (get_or xs (2 * i) 0, get_or xs (2 * i + 1) 0)
chunked xs chunks i e n h =
    let a = in_chunk 2 (length xs / 2) xs chunks e i 0 (2 * i) (omega arith) (omega arith) (omega arith) in
    let b = in_chunk 2 (length xs / 2) xs chunks e i 1 (2 * i + 1) (omega arith) (omega arith) (omega arith) in
    λ j. (a j, b j)

small_pair : (n : ℕ) (xs : List ℕ) → Row n xs → (i : ℕ) → 2 * i + 1 < n → (get_or xs (2 * i) 0 < 16) × (get_or xs (2 * i + 1) 0 < 16)
small_pair n xs r i h =
    let l = r.long in
    (All-get_or (λ a. a < 16) xs (2 * i) 0 (omega arith) r.small, All-get_or (λ a. a < 16) xs (2 * i + 1) 0 (omega arith) r.small)

pub layer-c-requires : goal.layer-c-requires
layer-c-requires g c =
    let n = c.as_chunks.ensures.front_len in
    let l = c.self.invariant.1.long in
    let e = chunked c.self.inside.places c.as_chunks.result.0.now c.loop-i.i c.as_chunks.ensures.front n c.loop-i-test.true in
    let s =
    subst (λ (p : ℕ × ℕ). (p.0 < 16) × (p.1 < 16)) (sym e) (small_pair g.row.N c.self.inside.places c.self.invariant.1 c.loop-i.i (omega arith)) in
    c.requires.callable _ _ s.0 s.1

pub loop-i-preserved : goal.loop-i-preserved
loop-i-preserved g c =
    let n = c.as_chunks.ensures.front_len in
    let l = c.self.invariant.1.long in
    let m = c.loop-i.invariant.0 in
    let xs : List ℕ = c.self.inside.places in
    let ys : List ℕ = c.loop-i.self-inside.places in
    let i : ℕ = c.loop-i.i in
    let r : ℕ × ℕ = c.layer-c.result in
    let e = chunked xs c.as_chunks.result.0.now i c.as_chunks.ensures.front n c.loop-i-test.true in (
      length-set (set ys (2 * i) r.0) (2 * i + 1) r.1 ∙ length-set ys (2 * i) r.0 ∙ m,
      pair_more (goal.F-post g c.args.layer) xs ys i (omega arith) r (subst (λ (p : ℕ × ℕ). goal.F-post g c.args.layer p r) e c.layer-c.ensures) c.loop-i.invariant.1,
    )

-- the whole row
pub invariant_of-self : goal.invariant_of-self
invariant_of-self g c =
    let n = c.as_chunks.ensures.front_len in
    let l = c.self.invariant.1.long in
    let f = c.self.invariant.0 in (
      f,
      pairs_row (goal.F-post g c.args.layer) c.requires.elements g.row.N c.self.inside.places c.loop-i.self-inside.places c.self.invariant.1
          record { even = omega arith; long = c.loop-i.invariant.0 ∙ sym l; each = λ i h. c.loop-i.invariant.1 i (omega arith) },
    )

pub returns : goal.returns
returns g c =
    let n = c.as_chunks.ensures.front_len in
    let l = c.self.invariant.1.long in
    let f = c.self.invariant.0 in
    subst (λ (xs : List ℕ). EachPair (goal.F-post g c.args.layer) xs c.loop-i.self-inside.places) c.self.view_is
    record { even = omega arith; long = c.loop-i.invariant.0 ∙ sym l; each = λ i h. c.loop-i.invariant.1 i (omega arith) }
