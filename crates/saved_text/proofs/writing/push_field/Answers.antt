use Rattle.std.proofs.Common.{[], ◌∷◌, decimal, arith}
use Rattle.std.proofs.lemmas.Fmt.{length-decimal-le}
use Rattle.fields.proofs.Texts.{then_part}
use Rattle.saved_text.specs.Snapshots.{capacity}
use Rattle.saved_text.proofs.writing.push_field.Goals as goal

pub returns : goal.returns
returns c =
    let few = length-decimal-le 20 c.args.n (omega arith) (omega arith) (omega arith) in
    record {
      bytes = then_part capacity c.args.text.now c.push.new.self c.push_number.new.self (9 ∷ []) (decimal c.args.n) c.push.ensures c.push_number.ensures;
      short = omega (arith, few);
    }
