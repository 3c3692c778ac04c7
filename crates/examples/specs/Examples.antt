-- Worked examples of the definitions.
use Rattle.std.specs.Prelude.{◌≡◌, ℕ, true, false, List, [], ◌∷◌, ◌++◌, length, replicate, codes, slice_index}
use Rattle.std.specs.List.{range_with_len}
use Rattle.jh.specs.Round.{sbox, first, second, permute}
use Rattle.jh.specs.Message.{zero_bits}
use Rattle.jh.specs.Compression.{ending_block}
use Rattle.drill_press.specs.Drill.{drill}
use Rattle.daybook.specs.States.{State, after_open}
use Rattle.text_laws.specs.Written.{text_of}
use Rattle.roll_contents.specs.Texts.{saved_by}
use Rattle.examples.specs.Rolls.{DrillAnswered}

-- what stands at a place after P_8 of the elements 0 to 255
abbrev pub moved_to : ℕ → ℕ
moved_to place = slice_index (permute (range_with_len 0 256)) place

-- a new roll over the drill press
abbrev pub new_drill_roll : ℕ → State (Unit {0})
new_drill_roll size = after_open (λ _. drill) tt size

-- the saved text of a roll
abbrev pub saved_text : State (Unit {0}) → List ℕ
saved_text s = text_of (saved_by s.seal s.contents)

-- a word, a tab and a field
abbrev pub with_field : List ℕ → List ℕ → List ℕ
with_field word field = word ++ (9 ∷ field)

pub record WorkedExamples : Type 0 where
  -- S0 and S1 at 0 and at 15
  pub s0 : (sbox false 0 ≡ 9) × (sbox false 15 ≡ 14)
  pub s1 : (sbox true 0 ≡ 3) × (sbox true 15 ≡ 8)
  -- L of (1, 0), (0, 1) and (8, 0)
  pub linear_1_0 : (first 1 0 ≡ 5) × (second 1 0 ≡ 2)
  pub linear_0_1 : (first 0 1 ≡ 2) × (second 0 1 ≡ 1)
  pub linear_8_0 : (first 8 0 ≡ 14) × (second 8 0 ≡ 3)
  -- P_8 moves element 1 to place 129, 2 to 128, 3 to 1, 255 to 127
  pub moves : (moved_to 129 ≡ 1) × (moved_to 128 ≡ 2) × (moved_to 1 ≡ 3) × (moved_to 127 ≡ 255)
  -- the zero bits of padding behind 0, 1, 511 and 512 bits
  pub padding : (zero_bits 0 ≡ 383) × (zero_bits 1 ≡ 894) × (zero_bits 511 ≡ 384) × (zero_bits 512 ≡ 383)
  -- the last two bytes of the ending block for one passage
  pub ending : (slice_index (ending_block 1) 62 ≡ 2) × (slice_index (ending_block 1) 63 ≡ 0) × (length (ending_block 1) ≡ 64)
  -- a new drill roll of size 224 saves as the lines roll, 224, 0, 0, 0, 0 and chain, 00e0 and 252 zeros
  pub saved : saved_text (new_drill_roll 224)
      ≡ (with_field (with_field (with_field (with_field (with_field (codes "roll") (codes "224")) (codes "0")) (codes "0")) (codes "0")) (codes "0") ++ (10 ∷ []))
      ++ (with_field (codes "chain") (codes "00e0" ++ replicate 252 48) ++ (10 ∷ []))
  -- the call program answers five lines on a drill roll of size 512
  pub answered : DrillAnswered
