-- What reading a saved text answers, and what writing one leaves.
use Rattle.std.specs.Prelude.{◌≡◌, ℕ, ◌<◌, ◌≤◌, List, ◌++◌, length, drop, Ok, Err, Result}
use Rattle.refusals.specs.Sizes.{bits_in}
use Rattle.refusals.specs.Refusals.{number}
use Rattle.refusals.specs.declared.refusal.Refusal.{Refusal}
use Rattle.refusals.specs.declared.refusal.Refusal.TheVariants.{Buffer}
use Rattle.window.specs.Listed.{listed}
use Rattle.text_laws.specs.Saved.{Saved, read_text}
use Rattle.text_laws.specs.Written.{text_of}
use Rattle.text_laws.specs.Valid.{Valid}
use Rattle.text_laws.specs.Laws.{Refused}
use Rattle.saved_text.specs.declared.snapshot.Snapshot.{Snapshot}
use Rattle.saved_text.specs.declared.snapshot.TextFault.{TextFault}

-- the most bytes that a saved text has
abbrev pub capacity : ℕ
capacity = 4661

abbrev pub saved_in : Snapshot → Saved
saved_in x = record { size = bits_in x.size; shipped = x.shipped; last = x.last; cents = x.cents; chain = x.chain; window = listed x.window }

-- the answer is what the text reads as
abbrev pub Reads : List ℕ → Result Snapshot TextFault → Type 0
Reads t (Ok x) = read_text t ≡ Ok (saved_in x)
Reads t (Err e) = read_text t ≡ Err (number e.refusal, e.line)

-- the text is that of a valid roll, the one in the answer; or it is refused as a text may be
abbrev pub Lawful : List ℕ → Result Snapshot TextFault → Type 0
Lawful t (Ok x) = Valid (saved_in x) × (text_of (saved_in x) ≡ t)
Lawful t (Err e) = Refused t (number e.refusal, e.line)

-- what saving a text into a buffer answers and leaves: the text in front and the rest as it was, or 4 where it has no room
abbrev pub Saves : (old new text : List ℕ) → Result ℕ Refusal → Type 0
Saves old new t (Ok n) = (length t ≤ length old) × (n ≡ length t) × (new ≡ t ++ drop (length t) old)
Saves old new t (Err e) = (length old < length t) × (e ≡ Buffer) × (new ≡ old)
