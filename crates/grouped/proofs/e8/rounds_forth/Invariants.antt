use Rattle.std.proofs.Common.{◌≡◌}
use Rattle.jh.specs.Constants.{constant}
use Rattle.jh.specs.Permutation.{after}
use Rattle.grouped.proofs.e8.rounds_forth.Given as goal

abbrev pub invariant-loop-r : goal.invariant-loop-r
invariant-loop-r l = (l.constant ≡ constant l._r) × (l.elements ≡ after l._r l.initial.elements)
