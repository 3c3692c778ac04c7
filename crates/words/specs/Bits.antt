-- The bits of a word of 128 bits, the highest first.
use Rattle.std.specs.Prelude.{ℕ, Bool, slice_index}
use Rattle.slicing.specs.Halves.{pair_bit}
use Rattle.words.specs.declared.word.Word.{Word}

unfoldable pub word_bit : Word → ℕ → Bool
word_bit w = pair_bit (slice_index w.lanes 0) (slice_index w.lanes 1)
