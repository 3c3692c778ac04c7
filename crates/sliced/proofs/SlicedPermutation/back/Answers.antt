use mathlib.Core.Path.{subst, sym}
use mathlib.Core.List.{List}
use Prim.Native.Nat.{ℕ}
use Rattle.jh.specs.Permutation.{group, after}
use Rattle.jh.specs.Inverse.{before, e8⁻¹}
use Rattle.jh.proofs.Places.{length_fours}
use Rattle.jh.proofs.Grouping.{group_small}
use Rattle.jh.proofs.Whole.{group_fours, before_fours, before_undone}
use Rattle.sliced.specs.State.{Form}
use Rattle.sliced.proofs.SlicedPermutation.back.Goals as goal

-- the elements of the state are those that 42 rounds make of q
pub returns : goal.returns
unfolding e8⁻¹ after
returns c =
    let x : List ℕ = c.args.state.now in
    let f = group_fours x in
    let s = group_small x in
    let q : List ℕ = before 42 (group x) in
    let b = before_fours 42 f s in
    let n = length_fours b.0 in
    c.write.ensures q n
    (c.back-first.ensures q (record { long = n; small = b.1 })
    (subst (λ (p : List ℕ). Form 0 p c.read-last.result) (sym (before_undone 42 f s)) c.read-last.ensures))
