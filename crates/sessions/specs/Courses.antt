-- The answers to requests, by the daybook of the calls made so far: what stands then, and its seal made anew.
use Rattle.std.specs.Prelude.{ℕ, cond, List, [], ◌∷◌, ◌++◌, length, Some, None, Option, ◌==◌}
use Rattle.press.specs.Meaning.{Meaning}
use Rattle.refusals.specs.Refusals.{size_refusal}
use Rattle.daybook.specs.Daybook.{Daybook, Call, daybook, refusal, next_out, cents_of}
use Rattle.daybook.specs.Daybook.Call.{passing, cancelling, shipping, closing, reopening}
use Rattle.replay.specs.Heard.{digest_at}
use Rattle.requests.specs.declared.request.PressName.{PressName}
use Rattle.requests.specs.declared.request.PressName.TheVariants.{Jh, Drill}
use Rattle.requests.specs.declared.request.LineRequest.{LineRequest}
use Rattle.requests.specs.declared.request.LineRequest.TheVariants.{Open, Pass, Cancel, Ship, Close, Reopen, Total}
use Rattle.answers.specs.Said.{Said}
use Rattle.answers.specs.Said.Said.{done, refused, shipped, closed, total}

-- what the press of each name means
abbrev pub by_name : Meaning → Meaning → PressName → Meaning
by_name jh drill Jh = jh
by_name jh drill Drill = drill

-- the calls made on a roll of that size, which is open or closed now
pub data RollCourse : Type 0 where
  open_roll : ℕ → List Call → RollCourse
  closed_roll : ℕ → List Call → RollCourse

-- no roll yet, or the course of the roll that was opened over a press
pub data Course : Type 0 where
  no_roll : Course
  on : PressName → RollCourse → Course

-- a call that meets no refusal is answered so, another by its number
abbrev pub unless : ℕ → Said → Said
unless n s = cond (n == 0) s (refused n)

-- a line that cannot be read, or that the state of the roll does not allow
abbrev pub not_allowed : Said
not_allowed = refused 16

abbrev pub totalled : Daybook → Said
totalled d = total (cents_of d) (length d.standing)

-- on an open roll
abbrev pub open_says : Meaning → ℕ → List Call → LineRequest → Said
open_says m size calls (Open name bits) = not_allowed
open_says m size calls (Pass p) = unless (refusal (daybook size calls) (passing p)) done
open_says m size calls (Cancel n) = unless (refusal (daybook size calls) (cancelling n)) done
open_says m size calls Ship = unless (refusal (daybook size calls) (shipping 64)) (shipped (next_out (daybook size calls)))
open_says m size calls Close = closed (digest_at m (daybook size calls))
open_says m size calls Reopen = not_allowed
open_says m size calls Total = totalled (daybook size calls)

abbrev pub open_next : ℕ → List Call → LineRequest → RollCourse
open_next size calls (Open name bits) = open_roll size calls
open_next size calls (Pass p) = open_roll size (calls ++ passing p ∷ [])
open_next size calls (Cancel n) = open_roll size (calls ++ cancelling n ∷ [])
open_next size calls Ship = open_roll size (calls ++ shipping 64 ∷ [])
open_next size calls Close = closed_roll size (calls ++ closing ∷ [])
open_next size calls Reopen = open_roll size calls
open_next size calls Total = open_roll size calls

-- on a closed roll
abbrev pub closed_says : ℕ → List Call → LineRequest → Said
closed_says size calls (Open name bits) = not_allowed
closed_says size calls (Pass p) = not_allowed
closed_says size calls (Cancel n) = not_allowed
closed_says size calls Ship = not_allowed
closed_says size calls Close = not_allowed
closed_says size calls Reopen = done
closed_says size calls Total = totalled (daybook size calls)

abbrev pub closed_next : ℕ → List Call → LineRequest → RollCourse
closed_next size calls (Open name bits) = closed_roll size calls
closed_next size calls (Pass p) = closed_roll size calls
closed_next size calls (Cancel n) = closed_roll size calls
closed_next size calls Ship = closed_roll size calls
closed_next size calls Close = closed_roll size calls
closed_next size calls Reopen = open_roll size (calls ++ reopening ∷ [])
closed_next size calls Total = closed_roll size calls

abbrev pub roll_says : Meaning → RollCourse → LineRequest → Said
roll_says m (open_roll size calls) q = open_says m size calls q
roll_says m (closed_roll size calls) q = closed_says size calls q

abbrev pub roll_next : RollCourse → LineRequest → RollCourse
roll_next (open_roll size calls) q = open_next size calls q
roll_next (closed_roll size calls) q = closed_next size calls q

-- before a roll is open
abbrev pub first_says : LineRequest → Said
first_says (Open name bits) = unless (size_refusal bits) done
first_says (Pass p) = not_allowed
first_says (Cancel n) = not_allowed
first_says Ship = not_allowed
first_says Close = not_allowed
first_says Reopen = not_allowed
first_says Total = not_allowed

abbrev pub first_next : LineRequest → Course
first_next (Open name bits) = cond (size_refusal bits == 0) (on name (open_roll bits [])) no_roll
first_next (Pass p) = no_roll
first_next (Cancel n) = no_roll
first_next Ship = no_roll
first_next Close = no_roll
first_next Reopen = no_roll
first_next Total = no_roll

-- a request
abbrev pub says : (PressName → Meaning) → Course → LineRequest → Said
says m no_roll q = first_says q
says m (on name k) q = roll_says (m name) k q

abbrev pub next_course : Course → LineRequest → Course
next_course no_roll q = first_next q
next_course (on name k) q = on name (roll_next k q)

-- a line: a request, or one that cannot be read
abbrev pub line_says : (PressName → Meaning) → Course → Option LineRequest → Said
line_says m k None = not_allowed
line_says m k (Some q) = says m k q

abbrev pub line_next : Course → Option LineRequest → Course
line_next k None = k
line_next k (Some q) = next_course k q
