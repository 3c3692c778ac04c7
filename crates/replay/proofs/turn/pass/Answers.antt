use Rattle.refusals.specs.Refusals.{outcome}
use Rattle.daybook.specs.Daybook.Call.{passing}
use Rattle.daybook.proofs.Courses.{pass_goes}
use Rattle.replay.specs.declared.request.Answer.TheVariants.{Done}
use Rattle.replay.proofs.Answering.{answers_by}
use Rattle.replay.proofs.turn.pass.Goals as goal

pub returns : goal.returns
returns g c =
    let s = c.args.roll.now in
    let s' = c.pass.new.self in
    let m = c.args.passage.now in
    let r = c.pass.result in
    let e = c.pass.ensures in
    answers_by g.P.Press.means s (passing m) (λ d. Done) (outcome r) c.from.result s'
    (pass_goes g.P.Press.means m s r s' e.answer e.block e.after) (λ p size calls h. c.from.ensures)
