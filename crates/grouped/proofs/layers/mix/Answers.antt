use lib.Bits.{xor_lt}
use Rattle.jh.proofs.Linear.{mixed_pair}
use Rattle.grouped.proofs.layers.mix.Goals as goal

pub double-requires-2 : goal.double-requires-2
double-requires-2 c = xor_lt 4 c.double.result c.args.pair.1 c.double.ensures.small c.requires.1

pub returns : goal.returns
returns c =
    mixed_pair c.args.pair.0 c.args.pair.1 c.double.result c.double-2.result c.requires.0 c.requires.1 c.double.ensures.value c.double-2.ensures.value
