-- The laws of saved texts.
use Rattle.std.specs.Prelude.{◌≡◌, ℕ, ◌+◌, ◌-◌, ◌≤◌, true, List, length, Ok, Err, ◌≢◌}
use Rattle.passages.specs.Rows.{last_serial}
use Rattle.text_laws.specs.Values.{are_valid}
use Rattle.text_laws.specs.Saved.{Saved, read_text}
use Rattle.text_laws.specs.Written.{numbers_in, text_telling, text_of}
use Rattle.text_laws.specs.FirstLines.{first_lines}
use Rattle.text_laws.specs.Valid.{Valid}

-- the text of a valid roll is accepted, and reads as that roll
abbrev pub SavedReads : Type 0
SavedReads = (s : Saved) → Valid s → read_text (text_of s) ≡ Ok s

-- a text is accepted only as the text of a valid roll, which is what it reads as
abbrev pub ReadSaves : Type 0
ReadSaves = (t : List ℕ) (s : Saved) → read_text t ≡ Ok s → Valid s × (text_of s ≡ t)

-- a refusal at line k depends on lines 1 to k alone: any text with those lines gets it
abbrev pub Depends : List ℕ → ℕ × ℕ → Type 0
Depends t e = (u : List ℕ) → first_lines e.1 u ≡ first_lines e.1 t → read_text u ≡ Err e

-- the lines of a text before line k are as in the text of a valid roll, but that line 1 may tell of more passages than there
-- are; and wherever enough serials are left for those that are missing, they are those of a valid roll's text as they stand
pub record Begins (t : List ℕ) (k : ℕ) : Type 0 where
  pub roll : Saved
  pub told : ℕ
  pub valid : Valid roll
  pub more : length roll.window ≤ told
  pub head : are_valid (numbers_in told roll) ≡ true
  pub lines : first_lines (k - 1) (text_telling told roll) ≡ first_lines (k - 1) t
  pub whole : last_serial roll.last roll.window + (told - length roll.window) ≤ 4294967295 → (s : Saved) × Valid s × (first_lines (k - 1) (text_of s) ≡ first_lines (k - 1) t)

-- what holds of a text that is refused with a number and a line
pub record Refused (t : List ℕ) (e : ℕ × ℕ) : Type 0 where
  -- lines are counted from 1
  pub line : 1 ≤ e.1
  -- it is the text of no valid roll
  pub no_roll : (s : Saved) → Valid s → text_of s ≢ t
  pub depends : Depends t e
  pub begins : Begins t e.1

abbrev pub RefusedStands : Type 0
RefusedStands = (t : List ℕ) (e : ℕ × ℕ) → read_text t ≡ Err e → Refused t e
