-- A request that makes a call: the answer, and the course after it.
use Rattle.std.proofs.Common.{◌≡◌, ℕ, Bool, true, false, cond, eqb, List, [], ◌∷◌, ◌++◌, sym, refl, ap, ◌∙◌, subst, arith}
use Rattle.press.specs.Meaning.{Meaning}
use Rattle.std.proofs.lemmas.List.Sums.{fold_push}
use Rattle.refusals.specs.Refusals.{number, refusal_of}
use Rattle.refusals.specs.Sizes.{bits_in}
use Rattle.daybook.specs.Daybook.{Call, daybook, next, unwritten, refusal, next_out}
use Rattle.daybook.specs.Daybook.Call.{passing, cancelling, shipping, closing}
use Rattle.replay.specs.Heard.{opened, shut, Turn, turn_open, turn_shut, answered, digest_at}
use Rattle.replay.specs.Stands.{Stands}
use Rattle.replay.proofs.Numbered.{Numbered, numbered}
use Rattle.replay.specs.declared.request.Request.{Request}
use Rattle.replay.specs.declared.request.Answer.{Answer}
use Rattle.replay.specs.declared.request.Answer.TheVariants.{Done, Refused, Shipped}
use Rattle.requests.specs.declared.request.LineRequest.{LineRequest}
use Rattle.requests.specs.declared.request.LineRequest.TheVariants.{Open, Pass, Cancel, Ship, Close, Reopen, Total}
use Rattle.answers.specs.Said.{said}
use Rattle.answers.specs.Said.Said.{refused, closed}
use Rattle.answers.specs.declared.answer.LineAnswer.{LineAnswer}
use Rattle.sessions.specs.Courses.{RollCourse, open_roll, closed_roll, unless, open_says, open_next, closed_says, closed_next, roll_says, roll_next}
use Rattle.sessions.specs.Told.{told, makes_call, open_turn, shut_turn, Makes, TellsClose}
use Rattle.sessions.specs.Sessions.{Holds}
use Rattle.sessions.specs.declared.state.SizedRoll.{SizedRoll}

-- where n is 0 or the number of a refusal
told_answered : (n : ℕ) (a : Answer) → Numbered n → told (answered n a) ≡ unless n (told a)
told_answered n a h =
    (elim (eqb n 0) as (λ b. cond b 0 (number (refusal_of n)) ≡ n → told (cond b a (Refused (refusal_of n))) ≡ cond b (told a) (refused n)) [
      | true ↦ λ e. refl
      | false ↦ λ e. ap refused e
    ]) h

absurd_bool : ◌≡◌ {A = Bool} false true → ⊥
absurd_bool h = let z : ◌≡◌ {A = ℕ} 0 1 = cc in omega arith

-- a close leaves the daybook as it is
book_closed : (size : ℕ) (calls : List Call) → daybook size (calls ++ closing ∷ []) ≡ daybook size calls
book_closed size calls = fold_push next (unwritten size) calls closing

module _ {P : Type 0} (f : P → Meaning) (p : P) (r : SizedRoll P) (a b : LineAnswer) (size : ℕ) (calls : List Call) (bits : bits_in r.size ≡ size) where
  on_open : (q : LineRequest) → makes_call q ≡ true → said a ≡ told (open_turn size calls q).answer
      → Stands f p size r.roll (open_turn size calls q).phase (open_turn size calls q).calls
      → TellsClose f q a (bits_in r.size) r.roll b
      → (said b ≡ open_says (f p) size calls q) × Holds f p r (open_next size calls q)
  on_open (Open name n) m h s t = absurd (absurd_bool m)
  on_open (Pass x) m h s t = (ap said (t.other refl) ∙ h ∙ told_answered (refusal (daybook size calls) (passing x)) Done (numbered (daybook size calls) (passing x)), (bits, s))
  on_open (Cancel n) m h s t = (ap said (t.other refl) ∙ h ∙ told_answered (refusal (daybook size calls) (cancelling n)) Done (numbered (daybook size calls) (cancelling n)), (bits, s))
  on_open Ship m h s t = (ap said (t.other refl) ∙ h ∙ told_answered (refusal (daybook size calls) (shipping 64)) (Shipped (next_out (daybook size calls))) (numbered (daybook size calls) (shipping 64)), (bits, s))
  on_open Close m h s t =
      let S : ℕ → Type 0 = λ n. Stands f p n r.roll shut (calls ++ closing ∷ []) in (
        t.digest refl h p (calls ++ closing ∷ []) (subst S (sym bits) s)
            ∙ ap (λ n. closed (digest_at (f p) (daybook n (calls ++ closing ∷ [])))) bits
            ∙ ap (λ d. closed (digest_at (f p) d)) (book_closed size calls),
        (bits, s),
      )
  on_open Reopen m h s t = (ap said (t.other refl) ∙ h, (bits, s))
  on_open Total m h s t = absurd (absurd_bool m)

  on_closed : (q : LineRequest) → makes_call q ≡ true → said a ≡ told (shut_turn size calls q).answer
      → Stands f p size r.roll (shut_turn size calls q).phase (shut_turn size calls q).calls
      → TellsClose f q a (bits_in r.size) r.roll b
      → (said b ≡ closed_says size calls q) × Holds f p r (closed_next size calls q)
  on_closed (Open name n) m h s t = absurd (absurd_bool m)
  on_closed (Pass x) m h s t = (ap said (t.other refl) ∙ h, (bits, s))
  on_closed (Cancel n) m h s t = (ap said (t.other refl) ∙ h, (bits, s))
  on_closed Ship m h s t = (ap said (t.other refl) ∙ h, (bits, s))
  on_closed Close m h s t = (ap said (t.skipped h) ∙ h, (bits, s))
  on_closed Reopen m h s t = (ap said (t.other refl) ∙ h, (bits, s))
  on_closed Total m h s t = absurd (absurd_bool m)

module _ {P : Type 0} (f : P → Meaning) (old new : SizedRoll P) (q : LineRequest) (c : Request) (a b : LineAnswer) (sized : new.size ≡ old.size) (m : makes_call q ≡ true)
    (calls-of : (size : ℕ) (calls : List Call) → (turn_open size calls c ≡ open_turn size calls q) × (turn_shut size calls c ≡ shut_turn size calls q))
    (makes : Makes f old.roll c new.roll a)
    (tells : TellsClose f q a (bits_in new.size) new.roll b) where
  pub replied : (p : P) (k : RollCourse) → Holds f p old k → (said b ≡ roll_says (f p) k q) × Holds f p new (roll_next k q)
  replied p (open_roll size calls) h =
      let x = makes p size opened calls h.1 in
      let e = (calls-of size calls).0 in
      let T : Turn → Type 0 = λ t. (said a ≡ told t.answer) × Stands f p size new.roll t.phase t.calls in
      let y = subst T e x in
      on_open f p new a b size calls (ap bits_in sized ∙ h.0) q m y.0 y.1 tells
  replied p (closed_roll size calls) h =
      let x = makes p size shut calls h.1 in
      let e = (calls-of size calls).1 in
      let T : Turn → Type 0 = λ t. (said a ≡ told t.answer) × Stands f p size new.roll t.phase t.calls in
      let y = subst T e x in
      on_closed f p new a b size calls (ap bits_in sized ∙ h.0) q m y.0 y.1 tells
