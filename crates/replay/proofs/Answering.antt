-- What a call answers, in the daybook's words.
use Rattle.std.proofs.Common.{◌≡◌, ℕ, ◌≤◌, false, eqb, List, ◌++◌, length, take, drop, IfOk, Ok, Err, Result, sym, ap, ◌∙◌, ap₂, arith}
use Rattle.press.specs.Meaning.{Meaning}
use Rattle.std.proofs.lemmas.List.{append_assoc, append-nil, take_at, drop_all}
use Rattle.std.proofs.lemmas.Bool.Decides.{nat_tests}
use Rattle.refusals.specs.Refusals.{number, outcome, ship_refusal}
use Rattle.refusals.specs.declared.refusal.Refusal.{Refusal}
use Rattle.refusals.proofs.Numbers.{positive}
use Rattle.daybook.specs.Contents.{contents_length}
use Rattle.daybook.specs.States.{State}
use Rattle.daybook.specs.Daybook.{Call, Daybook, daybook}
use Rattle.daybook.specs.Course.{Came, GoesOn}
use Rattle.text_laws.specs.Saved.{read_text}
use Rattle.saved_text.specs.Snapshots.{Saves}
use Rattle.rolls.specs.Buffers.{Writes}
use Rattle.rolls.specs.Texts.{saved_of}
use Rattle.replay.specs.Heard.{answered}
use Rattle.replay.specs.Stands.{Answers, SavesText}
use Rattle.replay.specs.declared.request.Answer.{Answer}

-- no refusal has the number 0
pub not_zero : (e : Refusal) → eqb (number e) 0 ≡ false
not_zero e = let some = positive e in grind (arith, nat_tests)

some_room : (m w : ℕ) → 0 ≡ ship_refusal m w → 64 ≤ m
some_room m w e = grind (arith, nat_tests)

-- the block that a ship wrote into the first m bytes of another
pub shipped_block : (r : Result (Unit {0}) Refusal) (m w : ℕ) (text part part' block : List ℕ) → length block ≡ 64 → length part ≡ m → m ≤ 64
    → outcome r ≡ ship_refusal m w → Writes r 64 text part part' → IfOk r (λ _. part' ++ drop m block ≡ text)
shipped_block (Err e) m w text part part' block lb lp h a wr = tt
shipped_block (Ok u) m w text part part' block lb lp h a wr =
    let room = some_room m w a in
    ap₂ ◌++◌ (wr.1 ∙ ap (λ (x : List ℕ). text ++ x) (drop_all 64 part (omega arith)) ∙ append-nil text) (drop_all m block (omega arith)) ∙ append-nil text

-- the text that a save wrote into the first of some bytes
pub saved_text : {P : Type 0} (s : State P) (r : Result ℕ Refusal) (t part part' rest : List ℕ) → Saves part part' t r → length t ≡ contents_length s.contents
    → length part ≤ 4700 → read_text t ≡ Ok (saved_of s) → SavesText s (part' ++ rest) r
saved_text s (Err e) t part part' rest h l w e' = tt
saved_text s (Ok k) t part part' rest h l w e =
    let front : take k (part' ++ rest) ≡ t =
    ap (λ x. take k (x ++ rest)) h.2 ∙ ap (take k) (append_assoc t (drop (length t) part) rest) ∙ take_at t (drop (length t) part ++ rest) k (sym h.1) in
    (omega (arith, h.0, h.1, w), h.1 ∙ l, ap read_text front ∙ e)

module _ {P : Type 0} (means : P → Meaning) where
  -- a call that goes on with every course, and whose answer is the number's
  pub answers_by : (s : State P) (c : Call) (accepted : Daybook → Answer) (n : ℕ) (a : Answer) (s' : State P)
      → GoesOn means s c n s'
      → ((p : P) (size : ℕ) (calls : List Call) → Came means p s size calls → a ≡ answered n (accepted (daybook size calls)))
      → Answers means s c accepted a s'
  answers_by s c accepted n a s' goes said p size calls h =
      let on = goes p size calls h in
      (said p size calls h ∙ ap (λ (m : ℕ). answered m (accepted (daybook size calls))) on.0, on.1)
