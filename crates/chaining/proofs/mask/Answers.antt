use Rattle.std.proofs.Common.{arith}
use Rattle.jh.proofs.Compression.{put_low, put_high}
use Rattle.chaining.proofs.mask.Goals as goal

pub returns-in-Low : goal.returns-in-Low
returns-in-Low c = rw c.in-Low.is (put_low c.args.c.now c.args.m.now c.xor_into.new.bytes (omega arith) c.xor_into.ensures)

pub returns-in-High : goal.returns-in-High
returns-in-High c = rw c.in-High.is (put_high c.args.c.now c.args.m.now c.xor_into-in-High.new.bytes (omega arith) c.xor_into-in-High.ensures)
