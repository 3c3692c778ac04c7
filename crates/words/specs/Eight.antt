-- What the eight words in 128 bytes are.
use Rattle.std.specs.Prelude.{◌≡◌, ℕ, ◌+◌, ◌-◌, ◌*◌, ◌<◌, List, slice_index_or}
use Rattle.jh.specs.Bit.{bit}
use Rattle.jh.specs.Permutation.{byte_bit}
use Rattle.words.specs.Bits.{word_bit}
use Rattle.words.specs.declared.word.Word.{Word}
use Rattle.words.specs.declared.eight.EightWords.{EightWords}

-- h is the 64 bits from byte `at` on
abbrev pub HalfAt : List ℕ → ℕ → ℕ → Type 0
HalfAt x at h = (j : ℕ) → j < 64 → bit h (63 - j) ≡ byte_bit x (8 * at + j)

-- w is word k
abbrev pub WordAt : List ℕ → ℕ → Word → Type 0
WordAt x k w = (i : ℕ) → i < 128 → word_bit w i ≡ byte_bit x (128 * k + i)

-- w are the eight words
pub record WordsIn (x : List ℕ) (w : EightWords) : Type 0 where
  pub word : (k : ℕ) (d : Word) → k < 8 → WordAt x k (slice_index_or w.0 k d)
