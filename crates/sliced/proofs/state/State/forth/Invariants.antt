use Rattle.std.proofs.Common.{◌*◌}
use Rattle.sliced.specs.State.{Steps}
use Rattle.sliced.proofs.state.State.forth.Given as goal

abbrev pub invariant-loop-turn : goal.invariant-loop-turn
invariant-loop-turn l = Steps 0 l.initial.state (7 * l.turn) l.state
