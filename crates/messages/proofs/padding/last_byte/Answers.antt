use Rattle.std.proofs.Common.{◌/◌, ◌%◌, get_or, arith}
use Rattle.messages.proofs.Marks.{masked_marked}
use Rattle.messages.proofs.padding.last_byte.Goals as goal

pub returns : goal.returns
returns c =
    let b = c.args.bits in
    masked_marked (b % 8) (get_or c.args.bytes.now (b / 8) 0) (omega arith) (omega (arith, c.type_inv.bytes (b / 8)))
