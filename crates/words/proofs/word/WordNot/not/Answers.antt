use Rattle.std.proofs.Common.{◌≡◌, ◌^◌, ◌<◌, length, get_or, rules}
use Rattle.words.specs.Bits.{word_bit}
use Rattle.words.proofs.Lanes.{lanes_inverted}
use Rattle.words.proofs.word.WordNot.not.Goals as goal

pub returns : goal.returns
unfolding word_bit
returns c i =
    let p : length c.args.self.lanes ≡ 2 = search rules in
    let h : get_or c.args.self.lanes 0 0 < 2 ^ 64 = search rules in
    let l : get_or c.args.self.lanes 1 0 < 2 ^ 64 = search rules in
    lanes_inverted c.args.self.lanes p i h l
