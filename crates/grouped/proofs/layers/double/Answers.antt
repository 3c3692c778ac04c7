use Rattle.std.proofs.Common.{◌*◌, ◌/◌, ◌%◌, sym, arith}
use lib.Bits.{xor_lt}
use Rattle.jh.proofs.Linear.{times_two}
use Rattle.grouped.proofs.layers.double.Goals as goal

pub returns : goal.returns
returns c = record {
  value = sym (times_two c.args.a c.requires);
  small = xor_lt 4 (c.args.a * 2 % 16) (c.args.a / 8 * 3) (omega arith) (omega arith);
}
