-- A roll that stands where a row of requests led.
use Rattle.std.specs.Prelude.{◌≡◌, ℕ, ◌≤◌, List, [], ◌∷◌, ◌++◌, length, take, drop, Ok, Err, Result}
use Rattle.press.specs.Meaning.{Meaning}
use Rattle.refusals.specs.declared.refusal.Refusal.{Refusal}
use Rattle.daybook.specs.Contents.{contents_length}
use Rattle.daybook.specs.States.{State}
use Rattle.daybook.specs.Daybook.{Call, Daybook, daybook, refusal}
use Rattle.daybook.specs.Course.{Came, CameClosed}
use Rattle.text_laws.specs.Saved.{read_text}
use Rattle.rolls.specs.Texts.{saved_of}
use Rattle.replay.specs.Heard.{answered, Phase, Turn, turn, Heard, opened, kept, shut, heard, reading_open, reading_at}
use Rattle.replay.specs.declared.request.Request.{Request}
use Rattle.replay.specs.declared.request.Answer.{Answer}
use Rattle.replay.specs.declared.request.Reading.{Reading}
use Rattle.replay.specs.declared.roll.SavedText.{SavedText}
use Rattle.replay.specs.declared.roll.Roll.{Roll}
use Rattle.replay.specs.declared.roll.Roll.TheVariants.{Open, Saved, Closed}

abbrev pub text_in : SavedText → List ℕ
text_in t = take t.len t.bytes

-- a text from which the roll at the state s can be resumed
abbrev pub KeepsText : {P : Type 0} → State P → SavedText → Type 0
KeepsText s t = (read_text (text_in t) ≡ Ok (saved_of s)) × (length (text_in t) ≡ contents_length s.contents)

-- a save of the roll at the state s that wrote n of the bytes
abbrev pub SavesText : {P : Type 0} → State P → List ℕ → Result ℕ Refusal → Type 0
SavesText s bytes (Ok n) = (n ≤ 4700) × (n ≡ contents_length s.contents) × (read_text (take n bytes) ≡ Ok (saved_of s))
SavesText s bytes (Err e) = Unit {0}

-- a call c on an open roll at the state s answered a, and left it at s': for every course by which the roll came, the answer is
-- the daybook's refusal, or where there is none what `accepted` says, and the roll goes on with this call
abbrev pub Answers : {P : Type 0} → (P → Meaning) → State P → Call → (Daybook → Answer) → Answer → State P → Type 0
Answers {P = P} means s c accepted a s' =
    (p : P) (size : ℕ) (calls : List Call) → Came means p s size calls
    → (a ≡ answered (refusal (daybook size calls) c) (accepted (daybook size calls))) × Came means p s' size (calls ++ c ∷ [])

-- what each press of a kind means; the press that a roll was opened over, and its size
module _ {P : Type 0} (means : P → Meaning) (p : P) (size : ℕ) where
  -- the roll stands in that phase, and came by these calls
  abbrev pub Stands : Roll P → Phase → List Call → Type 0
  Stands (Open o) f calls = (f ≡ opened) × Came means p o size calls
  Stands (Saved o t) f calls = (f ≡ kept) × Came means p o size calls × (read_text (text_in t) ≡ Ok (saved_of o))
  Stands (Closed c) f calls = (f ≡ shut) × CameClosed means p c size calls

  -- the roll stands where the turn led, and the answer is the turn's
  pub record Turned (r : Roll P) (a : Answer) (t : Turn) : Type 0 where
    pub stands : Stands r t.phase t.calls
    pub answer : a ≡ t.answer

  -- the roll stands where n requests led, and their answers are the first of `new`; the others are as they were
  pub record Ran (r : Roll P) (old new : List Answer) (h : Heard) (n : ℕ) : Type 0 where
    pub stands : Stands r h.phase h.calls
    pub first : take n new ≡ h.answers
    pub rest : drop n new ≡ drop n old

module _ {P : Type 0} (means : P → Meaning) where
  -- a request to an open roll at the state s led to the roll r and the answer a, which are those of the turn, for every course by which it came
  abbrev pub Turns : State P → (ℕ → List Call → Turn) → Roll P → Answer → Type 0
  Turns s t r a = (p : P) (size : ℕ) (calls : List Call) → Came means p s size calls → Turned means p size r a (t size calls)

  -- and to a closed one
  abbrev pub TurnsClosed : State P → (ℕ → List Call → Turn) → Roll P → Answer → Type 0
  TurnsClosed s t r a = (p : P) (size : ℕ) (calls : List Call) → CameClosed means p s size calls → Turned means p size r a (t size calls)

  -- and to one in any phase
  abbrev pub TurnsAny : Roll P → Request → Roll P → Answer → Type 0
  TurnsAny r q r' a = (p : P) (size : ℕ) (f : Phase) (calls : List Call) → Stands means p size r f calls → Turned means p size r' a (turn size f calls q)

  -- a row of requests to a new roll at the state s
  abbrev pub Runs : State P → List Request → (old new : List Answer) → Roll P → Type 0
  Runs s qs old new r =
      (p : P) (size : ℕ) → Came means p s size [] → Ran means p size r old new (heard size qs) (length qs)

  -- what a roll tells
  abbrev pub ReadsAny : Roll P → Reading → Type 0
  ReadsAny r x =
      (p : P) (size : ℕ) (f : Phase) (calls : List Call) → Stands means p size r f calls
      → x ≡ reading_at (means p) f (daybook size calls)

  abbrev pub ReadsClosed : State P → Reading → Type 0
  ReadsClosed s x =
      (p : P) (size : ℕ) (calls : List Call) → CameClosed means p s size calls
      → x ≡ reading_at (means p) shut (daybook size calls)

abbrev pub ReadsOpen : {P : Type 0} → (P → Meaning) → State P → Reading → Type 0
ReadsOpen {P = P} means s x =
    (p : P) (size : ℕ) (calls : List Call) → Came means p s size calls → x ≡ reading_open (means p) (daybook size calls)
