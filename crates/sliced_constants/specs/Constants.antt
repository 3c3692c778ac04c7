-- The round constants as words.
use Rattle.std.specs.Prelude.{◌≡◌, ℕ, ◌<◌, false, slice_index_or}
use Rattle.slicing.specs.Constants.{even_word, odd_word}
use Rattle.words.specs.Bits.{word_bit}
use Rattle.sliced_constants.specs.declared.RoundConstant.{RoundConstant}

-- c is the constant of round r
pub record IsConstant (r : ℕ) (c : RoundConstant) : Type 0 where
  pub even : (i : ℕ) → i < 128 → word_bit c.even i ≡ slice_index_or (even_word r) i false
  pub odd : (i : ℕ) → i < 128 → word_bit c.odd i ≡ slice_index_or (odd_word r) i false
