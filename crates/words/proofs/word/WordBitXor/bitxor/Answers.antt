use Rattle.std.proofs.Common.{◌≡◌, length, rules}
use lib.Bits.{bit_xor}
use Rattle.words.specs.Bits.{word_bit}
use Rattle.jh.specs.Bit.{differ}
use Rattle.slicing.proofs.Bits.{bit_of_xor}
use Rattle.words.proofs.Lanes.{lanes_by_bits}
use Rattle.words.proofs.word.WordBitXor.bitxor.Goals as goal

pub returns : goal.returns
unfolding word_bit
returns c i =
    let p : length c.args.self.lanes ≡ 2 = search rules in
    let q : length c.args.rhs.lanes ≡ 2 = search rules in
    lanes_by_bits bit_xor differ bit_of_xor c.args.self.lanes c.args.rhs.lanes p q i
