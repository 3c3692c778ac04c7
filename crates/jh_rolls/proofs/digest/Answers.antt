use Rattle.jh_rolls.proofs.Told.{writes_jh}
use Rattle.jh_rolls.proofs.digest.Goals as goal

pub returns : goal.returns
returns g c =
    let e = c.digest.ensures in
    record {
      answer = e.answer;
      written = e.written;
      jh = λ means. writes_jh g.P.Permutation.image c.args.roll.now means c.args.out.now c.digest.new.out c.digest.result e.written;
      formed = e.formed;
    }
