use Rattle.std.proofs.Common.{◌≡◌, ◌||◌, length, rules}
use lib.Bits.{bit_or}
use Rattle.words.specs.Bits.{word_bit}
use Rattle.slicing.proofs.Bits.{bit_of_or}
use Rattle.words.proofs.Lanes.{lanes_by_bits}
use Rattle.words.proofs.word.WordBitOr.bitor.Goals as goal

pub returns : goal.returns
unfolding word_bit
returns c i =
    let p : length c.args.self.lanes ≡ 2 = search rules in
    let q : length c.args.rhs.lanes ≡ 2 = search rules in
    lanes_by_bits bit_or ◌||◌ bit_of_or c.args.self.lanes c.args.rhs.lanes p q i
