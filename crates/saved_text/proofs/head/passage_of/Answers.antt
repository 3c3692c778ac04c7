use Rattle.std.proofs.Common.{rules}
use Rattle.saved_text.proofs.Unfit.{told}
use Rattle.saved_text.proofs.head.passage_of.Goals as goal

pub returns-in_ok-block-in-Pass : goal.returns-in_ok-block-in-Pass
returns-in_ok-block-in-Pass c =
    rw c.in-Pass.is
    (told c.args.at c.args.before c.in-Pass.digits.now c.in_ok-block-in-Pass.block c.decode_after.result c.map_err.result
    c.in_ok-block-in-Pass.ensures c.decode_after.ensures.answer c.decode_after.ensures.value c.map_err.ensures.cases (λ e f q. search rules))
