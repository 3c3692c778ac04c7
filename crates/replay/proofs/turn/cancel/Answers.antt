use Rattle.refusals.specs.Refusals.{outcome}
use Rattle.daybook.specs.Daybook.Call.{cancelling}
use Rattle.daybook.proofs.Courses.{cancel_goes}
use Rattle.replay.specs.declared.request.Answer.TheVariants.{Done}
use Rattle.replay.proofs.Answering.{answers_by}
use Rattle.replay.proofs.turn.cancel.Goals as goal

pub returns : goal.returns
returns g c =
    let s = c.args.roll.now in
    let s' = c.cancel.new.self in
    let n = c.args.serial in
    let r = c.cancel.result in
    let e = c.cancel.ensures in
    let met = g.met.P.Press in
    answers_by g.P.Press.means s (cancelling n) (λ d. Done) (outcome r) c.from.result s'
    (cancel_goes g.P.Press.means met.steps_chain g.P.Press.backs met.back_of_step n s r s' e.answer e.after) (λ p size calls h. c.from.ensures)
