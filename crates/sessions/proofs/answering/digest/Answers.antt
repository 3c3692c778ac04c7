use Rattle.std.proofs.Common.{◌≡◌, ◌/◌, ◌++◌, length, drop, replicate, ap, ◌∙◌, rules}
use Rattle.refusals.specs.Sizes.{bits_in}
use Rattle.daybook.specs.Daybook.{daybook, unwritten}
use Rattle.daybook.proofs.Notes.{size_kept}
use Rattle.replay.specs.Heard.{shut, digest_at}
use Rattle.answers.specs.Said.Said.{closed}
use Rattle.refusals.proofs.Sizes.{digest_short}
use Rattle.sessions.proofs.Digests.{digest_in, front}
use Rattle.sessions.proofs.answering.digest.Goals as goal

pub returns-in-Digested : goal.returns-in-Digested
returns-in-Digested g c = λ p calls stands.
    let size = bits_in c.args.size in
    let d = daybook size calls in
    let n = size_kept (unwritten size) calls in
    let l : length c.in-Digested.digest ≡ 64 = search rules in
    let e = ap digest_in (c.in-Digested.ensures p size shut calls stands) in
    ap (λ t. closed t) (front (size / 8) c.in-Digested.digest (digest_at (g.P.Press.means p) d) (digest_short c.args.size) l
    (e ∙ ap (λ k. digest_at (g.P.Press.means p) d ++ drop (k / 8) (replicate 64 0)) n))
