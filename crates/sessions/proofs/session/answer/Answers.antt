use Rattle.std.proofs.Common.{◌≡◌, None, Some, Err, Option, Result, ok_or, sym, ap, subst, arith}
use Rattle.refusals.specs.Refusals.{number}
use Rattle.refusals.specs.declared.refusal.Refusal.{Refusal}
use Rattle.refusals.specs.declared.refusal.Refusal.TheVariants.{Request}
use Rattle.requests.specs.declared.request.LineRequest.{LineRequest}
use Rattle.requests.specs.Requests.{request_of}
use Rattle.answers.specs.Said.Said.{refused}
use Rattle.sessions.specs.Courses.{by_name, line_says, line_next}
use Rattle.sessions.specs.Sessions.{CameBy}
use Rattle.sessions.proofs.session.answer.Goals as goal

-- only a line that is no request is refused
unread : (q : Option LineRequest) (e : Refusal) → ◌≡◌ {A = Result LineRequest Refusal} (Err e) (ok_or q Request) → (q ≡ None) × (e ≡ Request)
unread None e h = grind arith
unread (Some q) e h = grind arith

pub returns-in-Err : goal.returns-in-Err
returns-in-Err g c = λ j d k came.
    let f = g.J.Press.means in
    let h = g.D.Press.means in
    let u = unread (request_of c.args.line.now) c.in-Err.refusal c.in-Err.ensures in
    let T : Option LineRequest → Type 0 = λ q. (refused (number c.in-Err.refusal) ≡ line_says (by_name (f j) (h d)) k q) × CameBy f h j d c.args.session (line_next k q) in
    subst T (sym u.0) (ap (λ e. refused (number e)) u.1, came)
