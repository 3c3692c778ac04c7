use Rattle.std.proofs.Common.{Ok, ap, ◌∙◌}
use Rattle.daybook.specs.Daybook.{daybook, next_out}
use Rattle.daybook.specs.Daybook.Call.{shipping}
use Rattle.daybook.proofs.Courses.{ship_goes}
use Rattle.daybook.proofs.Notes.{oldest_is}
use Rattle.replay.specs.declared.request.Answer.TheVariants.{Shipped}
use Rattle.replay.proofs.Answering.{answers_by}
use Rattle.replay.proofs.turn.ship.Goals as goal

pub returns-in-Ok : goal.returns-in-Ok
returns-in-Ok g c =
    let s = c.args.roll.now in
    let s' = c.ship_into.new.roll in
    let e = c.in-Ok.ensures in
    answers_by g.P.Press.means s (shipping c.args.room) (λ d. Shipped (next_out d)) 0 (Shipped c.ship_into.new.block) s'
    (ship_goes g.P.Press.means c.args.room s (Ok tt) s' e.answer e.after)
    (λ p size calls h. ap Shipped (e.written ∙ oldest_is s.contents (daybook size calls) h.keeps))
