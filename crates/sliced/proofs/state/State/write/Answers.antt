use mathlib.Core.Path.{◌∙◌, ap, sym}
use mathlib.Core.List.{List}
use Prim.Native.Nat.{ℕ}
use Rattle.byte_strings.proofs.Strings.{all_bytes}
use Rattle.jh.specs.Permutation.{group, ungroup}
use Rattle.jh.proofs.Grouping.{length_group, ungroup_group}
use Rattle.slicing.proofs.Slices.{lies_same}
use Rattle.sliced.proofs.Ends.{words_form}
use Rattle.sliced.proofs.state.State.write.Goals as goal

-- what was written reads as this state, so its elements are q
pub returns : goal.returns
returns c q long form =
    let x : List ℕ = c.write.new.bytes in
    let w = c.write.ensures in
    let read = words_form c.args.self.even.0 w.words in
    sym (ungroup_group x w.bytes.len (all_bytes w.bytes)) ∙ ap ungroup (lies_same (group x) q (length_group x) long read form)
