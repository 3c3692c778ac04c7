-- What the saved text of a roll tells.
use Rattle.std.specs.Prelude.{◌≡◌, ℕ, ◌≤◌, List, length, Ok, Err, Result}
use Rattle.refusals.specs.Refusals.{number}
use Rattle.refusals.specs.declared.refusal.Refusal.{Refusal}
use Rattle.daybook.specs.Contents.{Contents, contents_length}
use Rattle.text_laws.specs.Saved.{Saved, read_text}
use Rattle.text_laws.specs.Valid.{Valid}
use Rattle.text_laws.specs.Written.{text_of}
use Rattle.text_laws.specs.Laws.{Refused}
use Rattle.saved_text.specs.Snapshots.{Saves}
use Rattle.saved_text.specs.declared.snapshot.TextFault.{TextFault}
use Rattle.roll_contents.specs.Contents.{contents_of}
use Rattle.roll_contents.specs.declared.saving.Resumed.{Resumed}

-- what the saved text of a roll with that seal and those contents tells
abbrev pub saved_by : List ℕ → Contents → Saved
saved_by seal k =
    record { size = k.size; shipped = k.shipped; last = k.last; cents = k.cents; chain = seal; window = k.window }

-- the contents that a saved text tells
abbrev pub contents_in : Saved → Contents
contents_in t = record { size = t.size; window = t.window; shipped = t.shipped; last = t.last; cents = t.cents }

-- a save into a buffer, with the result r: it writes the text of a valid roll, so that it can be resumed
pub record WritesText (seal : List ℕ) (k : Contents) (old new : List ℕ) (r : Result ℕ Refusal) : Type 0 where
  pub text : Saves old new (text_of (saved_by seal k)) r
  pub long : length (text_of (saved_by seal k)) ≡ contents_length k
  -- no text is longer
  pub most : contents_length k ≤ 4661
  pub valid : Valid (saved_by seal k)

-- the text t tells the valid roll in the answer, and is its text; or it is refused by a number and a line
abbrev pub ReadsText : List ℕ → Result Resumed TextFault → Type 0
ReadsText t (Ok x) =
    let s = saved_by x.seal (contents_of x.contents) in
    (read_text t ≡ Ok s) × Valid s × (text_of s ≡ t)
ReadsText t (Err e) = (read_text t ≡ Err (number e.refusal, e.line)) × Refused t (number e.refusal, e.line)
