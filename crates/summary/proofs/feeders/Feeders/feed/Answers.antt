use Rattle.std.proofs.lemmas.Result.{MatchResult-at_ok, MatchResult-weaker}
use Rattle.summary.proofs.Feeding.{feed_cases}
use Rattle.summary.proofs.feeders.Feeders.feed.Goals as goal

pub returns : goal.returns
returns g c = λ p m h.
    let i = g.P.Permutation.image in
    let x = c.args.bytes.now in
    let a = feed_cases i p m x _ _ _ c.feed.result h.d224 c.feed.ensures.answer c.feed.ensures.after in
    let b = feed_cases i p m x _ _ _ c.feed-2.result h.d256 c.feed-2.ensures.answer c.feed-2.ensures.after in
    let d = feed_cases i p m x _ _ _ c.feed-3.result h.d384 c.feed-3.ensures.answer c.feed-3.ensures.after in
    let e = feed_cases i p m x _ _ _ c.feed-4.result h.d512 c.feed-4.ensures.answer c.feed-4.ensures.after in
    MatchResult-weaker c.feed-4.result e
    (λ u w. (
      w.0,
      record {
        d224 = (MatchResult-at_ok _ _ _ c.in_ok-feed.was a).1;
        d256 = (MatchResult-at_ok _ _ _ c.in_ok-feed-2.was b).1;
        d384 = (MatchResult-at_ok _ _ _ c.in_ok-feed-3.was d).1;
        d512 = w.1;
      },
    ))
    (λ y w. w)
