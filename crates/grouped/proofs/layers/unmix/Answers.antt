use lib.Bits.{xor_lt}
use Rattle.grouped.proofs.layers.unmix.Goals as goal

pub double-requires-2 : goal.double-requires-2
double-requires-2 c = xor_lt 4 c.args.pair.0 c.double.result c.requires.0 c.double.ensures.small
