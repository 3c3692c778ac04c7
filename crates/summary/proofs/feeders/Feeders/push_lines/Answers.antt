use Rattle.jh.specs.Jh.{jh_over}
use Rattle.summary.proofs.Reported.{four_lines}
use Rattle.summary.proofs.feeders.Feeders.push_lines.Goals as goal

pub returns : goal.returns
returns g c = λ p m h.
    four_lines (jh_over (g.P.Permutation.image p)) m _ _ _ _ _
    (c.push_line.ensures p m _ h.d224) (c.push_line-2.ensures p m _ h.d256) (c.push_line-3.ensures p m _ h.d384) (c.push_line-4.ensures p m _ h.d512)
