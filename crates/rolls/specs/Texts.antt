-- What the saved text of a roll tells, and what a resume makes of one.
use Rattle.std.specs.Prelude.{◌≡◌, ℕ, List, Ok, Err, Result}
use Rattle.refusals.specs.Refusals.{number}
use Rattle.daybook.specs.States.{State}
use Rattle.text_laws.specs.Saved.{Saved, read_text}
use Rattle.text_laws.specs.Valid.{Valid}
use Rattle.text_laws.specs.Written.{text_of}
use Rattle.text_laws.specs.Laws.{Refused}
use Rattle.roll_contents.specs.Texts.{saved_by}
use Rattle.saved_text.specs.declared.snapshot.TextFault.{TextFault}

-- what the saved text of a roll tells
abbrev pub saved_of : {P : Type 0} → State P → Saved
saved_of s = saved_by s.seal s.contents

-- a resume from the text t: the roll is then the valid roll whose text it is, over the press that it had; or the text is
-- refused by its number and line, and the roll is as it was
abbrev pub Resumes : {P : Type 0} → List ℕ → (old new : State P) → Result (Unit {0}) TextFault → Type 0
Resumes t old new (Ok u) = (new.press ≡ old.press) × (read_text t ≡ Ok (saved_of new)) × Valid (saved_of new) × (text_of (saved_of new) ≡ t)
Resumes t old new (Err e) = (new ≡ old) × (read_text t ≡ Err (number e.refusal, e.line)) × Refused t (number e.refusal, e.line)
