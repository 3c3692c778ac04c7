use Rattle.std.proofs.Common.{◌+◌, ◌*◌, sym, ◌∙◌, arith}
use Rattle.fields.proofs.Pairs.{digit_at, byte_at}
use Rattle.fields.proofs.hex.byte_at.Goals as goal

pub byte-requires : goal.byte-requires
byte-requires c = (digit_at c.args.field.now (2 * c.args.i) c.requires.1 (omega arith), digit_at c.args.field.now (2 * c.args.i + 1) c.requires.1 c.requires.0)

pub returns : goal.returns
returns c = c.byte.ensures ∙ sym (byte_at c.args.field.now c.args.i c.requires.0)
