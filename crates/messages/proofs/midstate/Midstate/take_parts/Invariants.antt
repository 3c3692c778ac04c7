use Rattle.std.proofs.Common.{take}
use Rattle.std.specs.List.{flat_map}
use Rattle.messages.specs.Holds.{Takes}
use Rattle.messages.proofs.midstate.Midstate.take_parts.Given as goal

abbrev pub invariant-loop-part : goal.invariant-loop-part
invariant-loop-part g l = Takes (g.P.Press.means l.press).steps (flat_map (λ x. x.now) (take l.part-index l.parts)) l.initial.self l.self
