use Rattle.std.proofs.Common.{ℕ, List, ap, ◌∙◌, ap₂}
use Rattle.jh.specs.Round.{round}
use Rattle.jh.specs.Constants.{zeros}
use Rattle.jh.specs.Permutation.{bits}
use Rattle.jh.proofs.Turns.{constant_next, after_none, after_next}
use Rattle.grouped.proofs.e8.rounds_forth.Goals as goal

pub loop-r-init : goal.loop-r-init
loop-r-init c = (c.first_constant-constant.ensures, after_none c.args.elements.now)

pub loop-r-preserved : goal.loop-r-preserved
loop-r-preserved c = (
  c.advance.ensures ∙ ap (round zeros) c.loop-r.invariant.0 ∙ constant_next c.loop-r._r,
  c.round.ensures ∙ ap₂ (λ (k q : List ℕ). round (bits k) q) (c.places.ensures ∙ c.loop-r.invariant.0) c.loop-r.invariant.1 ∙ after_next c.loop-r._r c.args.elements.now,
)
