use Rattle.std.proofs.Common.{◌≡◌, ◌-◌}
use Rattle.jh.specs.Constants.{constant}
use Rattle.jh.specs.Inverse.{before}
use Rattle.grouped.proofs.e8.rounds_back.Given as goal

abbrev pub invariant-loop-r : goal.invariant-loop-r
invariant-loop-r l = (l.constant ≡ constant (l.rounds - l._r)) × (before (l.rounds - l._r) l.elements ≡ before l.rounds l.initial.elements)
