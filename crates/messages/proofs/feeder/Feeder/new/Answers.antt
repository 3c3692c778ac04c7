use Rattle.std.proofs.Common.{ℕ, List, [], refl, subst}
use Rattle.messages.specs.Holds.{Holds}
use Rattle.messages.proofs.feeder.Feeder.new.Goals as goal

pub returns : goal.returns
returns g c =
    let st = (g.P.Press.means c.args.press).steps in
    record {
      press = refl;
      size = refl;
      stands = subst (λ (y : List ℕ). Holds st y [] c.new-state.result) c.opening.ensures (c.new-state.ensures.holds st);
    }
