use Rattle.std.proofs.Common.{◌≡◌, ◌*◌}
use Rattle.byte_strings.proofs.Over.{over}
use Rattle.jh.specs.Inverse.{unpermute}
use Rattle.grouped.proofs.elements.Elements.unpermute.Given as goal

abbrev pub invariant-loop-i : goal.invariant-loop-i
invariant-loop-i g l = l.self-inside.places ≡ over (4 * l.i) (unpermute l.initial.self-inside.places) l.initial.self-inside.places
