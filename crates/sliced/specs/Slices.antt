-- What four words mean: 128 elements.
use Rattle.std.specs.Prelude.{ℕ}
use Rattle.jh.specs.Bit.{element}
use Rattle.words.specs.Bits.{word_bit}
use Rattle.sliced.specs.declared.slices.Slices.{Slices}

-- element i: bit i of each word, the first word's the highest
abbrev pub element_at : Slices → ℕ → ℕ
element_at e i = element (word_bit e.0 i) (word_bit e.1 i) (word_bit e.2 i) (word_bit e.3 i)
