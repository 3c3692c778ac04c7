use Rattle.std.proofs.Common.{◌≡◌, ◌/◌}
use Rattle.jh.proofs.Moves.{moving}
use Rattle.grouped.proofs.elements.Elements.permute.Given as goal

abbrev pub invariant-loop-i : goal.invariant-loop-i
invariant-loop-i g l = l.self-inside.places ≡ moving (g.row.N / 2) l.i l.initial.self-inside.places
