-- A roll and the row of calls by which it came: its course.
use Rattle.std.specs.Prelude.{◌≡◌, ℕ, ◌≤◌, List, [], ◌∷◌, ◌++◌, length, sum_by}
use Rattle.std.specs.List.{AllByRecursion}
use Rattle.byte_strings.specs.Bytes.{Bytes}
use Rattle.press.specs.Meaning.{Meaning}
use Rattle.passages.specs.Fields.{charged_of}
use Rattle.passages.specs.Rows.{last_serial}
use Rattle.daybook.specs.Contents.{Contents}
use Rattle.daybook.specs.States.{State}
use Rattle.daybook.specs.Daybook.{Daybook, Call, archived, waiting, refusal, daybook, seal_of, closed_seal_of}

-- what a roll holds is what the daybook says
pub record Keeps (k : Contents) (d : Daybook) : Type 0 where
  pub size : k.size ≡ d.size
  pub window : k.window ≡ waiting d
  pub shipped : k.shipped ≡ d.shipped
  pub last : k.last ≡ last_serial 0 (archived d)
  pub cents : k.cents ≡ sum_by charged_of (archived d)
  pub blocks : AllByRecursion (Bytes 64) d.standing
  pub within : d.shipped ≤ length d.standing

-- a roll at the state s, over the press p, holds what the daybook says, and its chain value is `seal`
pub record Follows {P : Type 0} (m : Meaning) (p : P) (seal : List ℕ) (s : State P) (d : Daybook) : Type 0 where
  pub press : s.press ≡ p
  pub sealed : s.seal ≡ seal
  pub keeps : Keeps s.contents d
  pub start : Bytes 128 (m.opens d.size)

-- an open roll at the state s came by these calls, after it was opened with that size over the press p
abbrev pub Came : {P : Type 0} → (P → Meaning) → P → State P → ℕ → List Call → Type 0
Came means p s size calls = Follows (means p) p (seal_of (means p) (daybook size calls)) s (daybook size calls)

-- and a closed one
abbrev pub CameClosed : {P : Type 0} → (P → Meaning) → P → State P → ℕ → List Call → Type 0
CameClosed means p s size calls =
    Follows (means p) p (closed_seal_of (means p) (daybook size calls)) s (daybook size calls)

-- a call on an open roll goes on with every course: the daybook knows the number n that the call answers, and the roll then
-- stands where the course with this call leads
abbrev pub GoesOn : {P : Type 0} → (P → Meaning) → State P → Call → ℕ → State P → Type 0
GoesOn {P = P} means s c n s' =
    (p : P) (size : ℕ) (calls : List Call) → Came means p s size calls
    → (n ≡ refusal (daybook size calls) c) × Came means p s' size (calls ++ c ∷ [])
