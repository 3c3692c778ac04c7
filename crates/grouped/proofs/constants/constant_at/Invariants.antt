use Rattle.std.proofs.Common.{◌≡◌}
use Rattle.jh.specs.Constants.{constant}
use Rattle.grouped.proofs.constants.constant_at.Given as goal

abbrev pub invariant-loop-i : goal.invariant-loop-i
invariant-loop-i l = l.constant ≡ constant l._i
