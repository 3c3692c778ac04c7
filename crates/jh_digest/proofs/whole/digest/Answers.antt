use Rattle.std.proofs.Common.{ℕ, ◌/◌, List, ◌++◌, take, drop, ap, ◌∙◌}
use Rattle.std.proofs.lemmas.Result.{MatchResult-weaker}
use Rattle.jh.specs.Message.{bits_of}
use Rattle.jh.proofs.Means.{means_jh}
use Rattle.jh_digest.proofs.whole.digest.Goals as goal

pub returns-clause-jh : goal.returns-clause-jh
returns-clause-jh g c = λ e.
    let n = c.args.size in
    MatchResult-weaker c.digest.result c.digest.ensures.written
    (λ u w. w ∙ ap (λ (d : List ℕ). d ++ drop (n / 8) c.args.out.now)
    (means_jh (g.P.Permutation.image c.args.press.now.permutation) e n (take c.args.bits (bits_of c.args.bytes.now))))
    (λ u w. tt)
