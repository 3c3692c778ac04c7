use Rattle.std.proofs.Common.{◌≡◌}
use Rattle.byte_strings.proofs.Over.{over}
use Rattle.jh.specs.Round.{boxed}
use Rattle.jh.specs.Permutation.{bits}
use Rattle.grouped.specs.Chosen.{chosen}
use Rattle.grouped.proofs.elements.Elements.substitute.Given as goal

abbrev pub invariant-loop-i : goal.invariant-loop-i
invariant-loop-i g l = l.element-items ≡ over l.i (boxed (chosen l.s0 l.s1) (bits l.constant) l.initial.element-items) l.initial.element-items
