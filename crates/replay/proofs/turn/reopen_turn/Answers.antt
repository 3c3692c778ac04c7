use Rattle.std.proofs.Common.{refl}
use Rattle.daybook.proofs.Courses.{reopen_goes}
use Rattle.replay.proofs.turn.reopen_turn.Goals as goal

pub returns : goal.returns
returns g c =
    λ p size calls h.
    let s = c.args.roll in
    let s' = c.reopen.result in
    let met = g.met.P.Press in
    record {
      stands = (
        refl,
        reopen_goes g.P.Press.means met.steps_chain g.P.Press.backs met.back_of_step p size calls s s' c.reopen.ensures.block c.reopen.ensures.after h,
      );
      answer = refl;
    }
