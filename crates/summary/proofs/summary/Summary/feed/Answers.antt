use Rattle.std.proofs.Common.{sym, ◌∙◌}
use Rattle.std.proofs.lemmas.Option.{MatchOption-at_some}
use Rattle.summary.proofs.Feeding.{at_refused, at_accepted}
use Rattle.summary.proofs.summary.Summary.feed.Goals as goal

pub returns-then-is_err : goal.returns-then-is_err
returns-then-is_err g c = λ p m h.
    let f = MatchOption-at_some _ _ c.in-Some.feeders c.in-Some.is h in
    at_refused _ _ c.feed.result (sym c.is_err.ensures.value ∙ c.if-is_err.true) (c.feed.ensures p m f.1)

pub returns-else-is_err : goal.returns-else-is_err
returns-else-is_err g c = λ p m h.
    let f = MatchOption-at_some _ _ c.in-Some.feeders c.in-Some.is h in
    at_accepted _ _ c.feed.result (sym c.is_err.ensures.value ∙ c.if-is_err.false) (c.feed.ensures p m f.1)
