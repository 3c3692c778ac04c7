-- A row of requests, heard by the daybook alone: the calls that it comes to, and what each request is answered.
use Rattle.std.specs.Prelude.{ℕ, ◌-◌, ◌/◌, cond, List, [], ◌∷◌, ◌++◌, length, drop, replicate, fold, ◌==◌}
use Rattle.press.specs.Meaning.{Meaning}
use Rattle.refusals.specs.Refusals.{refusal_of}
use Rattle.daybook.specs.Daybook.{Call, Daybook, daybook, refusal, next_out, saved_length, cents_of, seal_of, closed_seal_of}
use Rattle.daybook.specs.Daybook.Call.{passing, cancelling, shipping, closing, reopening, saving, resuming}
use Rattle.roll_contents.specs.declared.contents.Total.{Total}
use Rattle.replay.specs.declared.request.Request.{Request}
use Rattle.replay.specs.declared.request.Request.TheVariants.{Close, Reopen, Pass, Cancel, Ship, Save, Resume}
use Rattle.replay.specs.declared.request.Answer.{Answer}
use Rattle.replay.specs.declared.request.Answer.TheVariants.{Skipped, Done, Refused, Shipped, Wrote}
use Rattle.replay.specs.declared.request.Reading.{Reading}
use Rattle.replay.specs.declared.request.Reading.TheVariants.{Sealed, Digested}

-- where a roll stands between two requests
pub data Phase : Type 0 where
  -- open
  opened : Phase
  -- open, right after an accepted save
  kept : Phase
  -- closed
  shut : Phase

-- what one request comes to: the phase after it, the course so far, and the answer
pub record Turn : Type 0 where
  pub phase : Phase
  pub calls : List Call
  pub answer : Answer

-- a request that the state of the roll does not allow changes nothing, and is no part of the course
abbrev pub skipped : Phase → List Call → Turn
skipped f calls = record { phase = f; calls = calls; answer = Skipped }

-- a call that meets no refusal is answered so, another by the refusal with its number
abbrev pub answered : ℕ → Answer → Answer
answered n a = cond (n == 0) a (Refused (refusal_of n))

-- the call c joins the course, and is answered as the daybook says
abbrev pub called : ℕ → Phase → List Call → Call → Answer → Turn
called size f calls c a = record { phase = f; calls = calls ++ c ∷ []; answer = answered (refusal (daybook size calls) c) a }

-- a request to an open roll
abbrev pub turn_open : ℕ → List Call → Request → Turn
turn_open size calls Close = called size shut calls closing Done
turn_open size calls Reopen = skipped opened calls
turn_open size calls (Pass m) = called size opened calls (passing m.now) Done
turn_open size calls (Cancel n) = called size opened calls (cancelling n) Done
turn_open size calls (Ship room) = called size opened calls (shipping room) (Shipped (next_out (daybook size calls)))
turn_open size calls (Save room) =
    called size (cond (refusal (daybook size calls) (saving room) == 0) kept opened) calls (saving room) (Wrote (saved_length (daybook size calls)))
turn_open size calls Resume = skipped opened calls

-- and right after an accepted save
abbrev pub turn_kept : ℕ → List Call → Request → Turn
turn_kept size calls Close = turn_open size calls Close
turn_kept size calls Reopen = skipped kept calls
turn_kept size calls (Pass m) = turn_open size calls (Pass m)
turn_kept size calls (Cancel n) = turn_open size calls (Cancel n)
turn_kept size calls (Ship room) = turn_open size calls (Ship room)
turn_kept size calls (Save room) = turn_open size calls (Save room)
turn_kept size calls Resume = called size opened calls resuming Done

-- a request to a closed roll
abbrev pub turn_shut : ℕ → List Call → Request → Turn
turn_shut size calls Close = skipped shut calls
turn_shut size calls Reopen = called size opened calls reopening Done
turn_shut size calls (Pass m) = skipped shut calls
turn_shut size calls (Cancel n) = skipped shut calls
turn_shut size calls (Ship room) = skipped shut calls
turn_shut size calls (Save room) = skipped shut calls
turn_shut size calls Resume = skipped shut calls

abbrev pub turn : ℕ → Phase → List Call → Request → Turn
turn size opened calls q = turn_open size calls q
turn size kept calls q = turn_kept size calls q
turn size shut calls q = turn_shut size calls q

-- all requests so far
pub record Heard : Type 0 where
  pub phase : Phase
  pub calls : List Call
  pub answers : List Answer

abbrev pub hear : ℕ → Heard → Request → Heard
hear size h q =
    let t = turn size h.phase h.calls q in
    record { phase = t.phase; calls = t.calls; answers = h.answers ++ t.answer ∷ [] }

-- a whole row of requests on a new roll of that size
abbrev pub heard : ℕ → List Request → Heard
heard size qs = fold (hear size) (record { phase = opened; calls = []; answers = [] }) qs

-- the charged cents and the count of the standing passages
abbrev pub total_at : Daybook → Total
total_at d = record { cents = cents_of d; count = length d.standing }

-- the digest of a closed roll: the last size / 8 bytes of its chain value
abbrev pub digest_at : Meaning → Daybook → List ℕ
digest_at m d = drop (128 - d.size / 8) (closed_seal_of m d)

-- what an open roll tells
abbrev pub reading_open : Meaning → Daybook → Reading
reading_open m d = Sealed (total_at d) (seal_of m d)

-- what a roll tells in that phase
abbrev pub reading_at : Meaning → Phase → Daybook → Reading
reading_at m opened d = reading_open m d
reading_at m kept d = reading_open m d
reading_at m shut d = Digested (total_at d) (digest_at m d ++ drop (d.size / 8) (replicate 64 0))
