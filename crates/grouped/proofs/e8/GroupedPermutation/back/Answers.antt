use Rattle.std.proofs.Common.{ap, ◌∙◌}
use Rattle.jh.specs.Permutation.{ungroup}
use Rattle.jh.specs.Inverse.{before, e8⁻¹}
use Rattle.grouped.proofs.e8.GroupedPermutation.back.Goals as goal

pub returns : goal.returns
unfolding e8⁻¹
returns c = c.ungroup.ensures ∙ ap ungroup (c.rounds_back.ensures ∙ ap (before 42) c.group-elements.ensures)
