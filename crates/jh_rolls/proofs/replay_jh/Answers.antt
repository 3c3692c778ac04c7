use Rattle.jh_rolls.proofs.Told.{tells_jh}
use Rattle.jh_rolls.proofs.replay_jh.Goals as goal

pub returns : goal.returns
returns g c =
    record {
      told = c.replay.ensures;
      jh = λ means. tells_jh g.P.Permutation.image c.args.press means c.args.size c.args.requests.now c.args.answers.now c.replay.new.answers c.replay.result c.replay.ensures;
    }
