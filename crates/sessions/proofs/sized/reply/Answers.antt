use Rattle.sessions.proofs.Replies.{replied}
use Rattle.sessions.proofs.sized.reply.Goals as goal

pub returns : goal.returns
returns g c =
    let call = c.in-Some.ensures in
    replied g.P.Press.means c.args.sized c.make-sized.result.0 c.args.request.now c.in-Some.call c.make-sized.result.1 c.tell-answer.result
    c.make-sized.ensures.size call.0 call.1 c.make-sized.ensures.turn c.tell-answer.ensures
