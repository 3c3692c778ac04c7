use Rattle.std.proofs.Common.{refl}
use Rattle.words.specs.Bits.{word_bit}
use Rattle.words.proofs.word.Word.new.Goals as goal

pub returns : goal.returns
unfolding word_bit
returns c i = refl
