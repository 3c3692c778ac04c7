use Rattle.std.proofs.Common.{ℕ, ◌/◌, List, ◌++◌, drop, ap, ◌∙◌}
use Rattle.std.proofs.lemmas.Result.{MatchResult-weaker}
use Rattle.jh.specs.Message.{bits_of}
use Rattle.jh.proofs.Means.{means_jh}
use Rattle.refusals.specs.Sizes.{bits_in}
use Rattle.jh_digest.proofs.feeder.JhFeeder.finish.Goals as goal

pub returns-clause-jh : goal.returns-clause-jh
returns-clause-jh g c = λ e.
    let f = c.args.self.now.feeder in
    let n = bits_in f.size in
    MatchResult-weaker c.finish.result c.finish.ensures.written
    (λ u w m h. w m h ∙ ap (λ (d : List ℕ). d ++ drop (n / 8) c.args.out.now) (means_jh (g.P.Permutation.image f.press.permutation) e n (bits_of m)))
    (λ u w. tt)
