use Rattle.std.proofs.Common.{◌≡◌, ◌&&◌, length, rules}
use lib.Bits.{bit_and}
use Rattle.words.specs.Bits.{word_bit}
use Rattle.slicing.proofs.Bits.{bit_of_and}
use Rattle.words.proofs.Lanes.{lanes_by_bits}
use Rattle.words.proofs.word.WordBitAnd.bitand.Goals as goal

pub returns : goal.returns
unfolding word_bit
returns c i =
    let p : length c.args.self.lanes ≡ 2 = search rules in
    let q : length c.args.rhs.lanes ≡ 2 = search rules in
    lanes_by_bits bit_and ◌&&◌ bit_of_and c.args.self.lanes c.args.rhs.lanes p q i
