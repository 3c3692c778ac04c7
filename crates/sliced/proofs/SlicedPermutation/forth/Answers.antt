use mathlib.Core.List.{List}
use Prim.Native.Nat.{ℕ}
use Rattle.jh.specs.Permutation.{group, after, e8}
use Rattle.jh.proofs.Places.{length_fours}
use Rattle.jh.proofs.Grouping.{length_group, group_small}
use Rattle.jh.proofs.Whole.{group_fours, after_fours}
use Rattle.sliced.proofs.SlicedPermutation.forth.Goals as goal

pub returns : goal.returns
unfolding e8 after
returns c =
    let x : List ℕ = c.args.state.now in
    c.write.ensures (after 42 (group x)) (length_fours (after_fours 42 (group_fours x) (group_small x)).0)
    (c.forth-last.ensures (group x) (record { long = length_group x; small = group_small x }) c.read-first.ensures)
