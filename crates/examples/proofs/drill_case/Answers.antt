use Rattle.std.proofs.Common.{ℕ, List, subst}
use Rattle.transcript.specs.Output.{Added}
use Rattle.examples.proofs.Drill.{drill_answered}
use Rattle.examples.proofs.drill_case.Goals as goal

pub returns : goal.returns
returns g c =
    subst (λ (t : List ℕ). Added c.transcribe.result c.args.out.now c.transcribe.new.out t) (drill_answered (g.J.Press.means c.args.jh)) c.transcribe.ensures
