-- What a line tells of the answer to a call.
use Rattle.std.specs.Prelude.{◌≡◌, ℕ, Bool, true, false, List, Some, None, Option}
use Rattle.press.specs.Meaning.{Meaning}
use Rattle.refusals.specs.Refusals.{number}
use Rattle.daybook.specs.Daybook.{Call, daybook, next_out}
use Rattle.daybook.specs.Daybook.Call.{passing, cancelling, shipping, closing, reopening}
use Rattle.requests.specs.declared.request.LineRequest.{LineRequest}
use Rattle.requests.specs.declared.request.LineRequest.TheVariants.{Open, Pass, Cancel, Ship, Close, Reopen, Total}
use Rattle.replay.specs.Heard.{Phase, opened, shut, Turn, turn, turn_open, turn_shut, skipped, called, digest_at}
use Rattle.replay.specs.Stands.{Stands}
use Rattle.replay.specs.declared.roll.Roll.{Roll}
use Rattle.replay.specs.declared.request.Request.{Request}
use Rattle.replay.specs.declared.request.Answer.{Answer}
use Rattle.replay.specs.declared.request.Answer.TheVariants.{Skipped, Done, Refused, Shipped, Wrote}
use Rattle.answers.specs.Said.{Said, said}
use Rattle.answers.specs.declared.answer.LineAnswer.{LineAnswer}
use Rattle.answers.specs.Said.Said.{done, refused, shipped, closed}
use Rattle.sessions.specs.Courses.{not_allowed}

abbrev pub told : Answer → Said
told Skipped = not_allowed
told Done = done
told (Refused e) = refused (number e)
told (Shipped m) = shipped m
told (Wrote n) = done

-- whether a request makes a call on the roll; the others are no call on it, or only look
abbrev pub makes_call : LineRequest → Bool
makes_call (Open name bits) = false
makes_call (Pass p) = true
makes_call (Cancel n) = true
makes_call Ship = true
makes_call Close = true
makes_call Reopen = true
makes_call Total = false

-- the turn of a request on an open roll
abbrev pub open_turn : ℕ → List Call → LineRequest → Turn
open_turn size calls (Open name bits) = skipped opened calls
open_turn size calls (Pass p) = called size opened calls (passing p) Done
open_turn size calls (Cancel n) = called size opened calls (cancelling n) Done
open_turn size calls Ship = called size opened calls (shipping 64) (Shipped (next_out (daybook size calls)))
open_turn size calls Close = called size shut calls closing Done
open_turn size calls Reopen = skipped opened calls
open_turn size calls Total = skipped opened calls

-- and on a closed one
abbrev pub shut_turn : ℕ → List Call → LineRequest → Turn
shut_turn size calls (Open name bits) = skipped shut calls
shut_turn size calls (Pass p) = skipped shut calls
shut_turn size calls (Cancel n) = skipped shut calls
shut_turn size calls Ship = skipped shut calls
shut_turn size calls Close = skipped shut calls
shut_turn size calls Reopen = called size opened calls reopening Done
shut_turn size calls Total = skipped shut calls

-- the call that a request makes
abbrev pub Calls : LineRequest → Option Request → Type 0
Calls q None = makes_call q ≡ false
Calls q (Some c) =
    (makes_call q ≡ true) × ((size : ℕ) (calls : List Call) → (turn_open size calls c ≡ open_turn size calls q) × (turn_shut size calls c ≡ shut_turn size calls q))

-- a request to the roll r was told so, and led to the roll r': for every course by which r came, as the turn of that request
abbrev pub Makes : {P : Type 0} → (P → Meaning) → Roll P → Request → Roll P → LineAnswer → Type 0
Makes {P = P} means r q r' a =
    (p : P) (size : ℕ) (f : Phase) (calls : List Call) → Stands means p size r f calls
    → (said a ≡ told (turn size f calls q).answer) × Stands means p size r' (turn size f calls q).phase (turn size f calls q).calls

abbrev pub is_close : LineRequest → Bool
is_close (Open name bits) = false
is_close (Pass p) = false
is_close (Cancel n) = false
is_close Ship = false
is_close Close = true
is_close Reopen = false
is_close Total = false

-- the answer b, where a call was answered a and led to the roll r of so many bits: the digest after an accepted close, else a
pub record TellsClose {P : Type 0} (means : P → Meaning)
    (q : LineRequest) (a : LineAnswer) (bits : ℕ) (r : Roll P) (b : LineAnswer) : Type 0 where
  pub other : is_close q ≡ false → b ≡ a
  pub skipped : said a ≡ not_allowed → b ≡ a
  pub digest : is_close q ≡ true → said a ≡ done → (p : P) (calls : List Call) → Stands means p bits r shut calls
      → said b ≡ closed (digest_at (means p) (daybook bits calls))
