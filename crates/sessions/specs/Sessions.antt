-- A session that stands where the lines so far led.
use Rattle.std.specs.Prelude.{◌≡◌, ℕ, false, [], Ok, Err, Option, Result}
use Rattle.press.specs.Meaning.{Meaning}
use Rattle.refusals.specs.Refusals.{number, size_refusal}
use Rattle.press.specs.declared.Declined.{Declined}
use Rattle.refusals.specs.Sizes.{bits_in}
use Rattle.replay.specs.Heard.{opened, shut}
use Rattle.replay.specs.Stands.{Stands}
use Rattle.requests.specs.declared.request.PressName.TheVariants.{Jh, Drill}
use Rattle.requests.specs.declared.request.LineRequest.{LineRequest}
use Rattle.answers.specs.Said.{said}
use Rattle.answers.specs.declared.answer.LineAnswer.{LineAnswer}
use Rattle.sessions.specs.Courses.{by_name, RollCourse, Course, open_roll, closed_roll, no_roll, on, roll_says, roll_next, says, next_course, line_says, line_next}
use Rattle.sessions.specs.Told.{makes_call}
use Rattle.sessions.specs.declared.state.SizedRoll.{SizedRoll}
use Rattle.sessions.specs.declared.state.Session.{Session}
use Rattle.sessions.specs.declared.state.Session.TheVariants as kinds

-- what each press of a kind means
module _ {P : Type 0} (f : P → Meaning) where
  -- the roll over the press p came by that course
  abbrev pub Holds : P → SizedRoll P → RollCourse → Type 0
  Holds p r (open_roll size calls) = (bits_in r.size ≡ size) × Stands f p size r.roll opened calls
  Holds p r (closed_roll size calls) = (bits_in r.size ≡ size) × Stands f p size r.roll shut calls

  -- a request to the roll r that makes no call was answered a: for every course by which r came, as the course says
  abbrev pub Looks : SizedRoll P → LineRequest → LineAnswer → Type 0
  Looks r q a = makes_call q ≡ false → (p : P) (k : RollCourse) → Holds p r k → said a ≡ roll_says (f p) k q

  -- a request to the roll r was answered a, and led to the roll r': for every course by which r came, as the course says
  abbrev pub Replies : SizedRoll P → LineRequest → SizedRoll P → LineAnswer → Type 0
  Replies r q r' a = (p : P) (k : RollCourse) → Holds p r k → (said a ≡ roll_says (f p) k q) × Holds p r' (roll_next k q)

  -- a roll of so many bits was opened over the press p; or refused, and the press comes back
  abbrev pub Opened : P → ℕ → Result (SizedRoll P) (Declined P) → Type 0
  Opened p bits (Ok r) = (size_refusal bits ≡ 0) × Holds p r (open_roll bits [])
  Opened p bits (Err d) = (size_refusal bits ≡ number d.refusal) × (d.press ≡ p)

-- Kept: the meanings of both kinds of press stand side by side, since each kind is a type of its own, and a record of the two would
-- be written out at each clause.
module _ {J D : Type 0} (f : J → Meaning) (g : D → Meaning) where
  -- the session over the presses j and d came by that course
  abbrev pub CameBy : J → D → Session J D → Course → Type 0
  CameBy j d (kinds.Unopened a b) no_roll = (a ≡ j) × (b ≡ d)
  CameBy j d (kinds.Unopened a b) (on name k) = ⊥
  CameBy j d (kinds.Jh r) no_roll = ⊥
  CameBy j d (kinds.Jh r) (on Jh k) = Holds f j r k
  CameBy j d (kinds.Jh r) (on Drill k) = ⊥
  CameBy j d (kinds.Drill r) no_roll = ⊥
  CameBy j d (kinds.Drill r) (on Jh k) = ⊥
  CameBy j d (kinds.Drill r) (on Drill k) = Holds g d r k

  -- a request to the session s was answered a, and led to s'
  abbrev pub Answers : Session J D → LineRequest → Session J D → LineAnswer → Type 0
  Answers s q s' a =
      (j : J) (d : D) (k : Course) → CameBy j d s k → (said a ≡ says (by_name (f j) (g d)) k q) × CameBy j d s' (next_course k q)

  -- and a line, which may be no request
  abbrev pub GoesOn : Session J D → Option LineRequest → Session J D → LineAnswer → Type 0
  GoesOn s q s' a =
      (j : J) (d : D) (k : Course) → CameBy j d s k → (said a ≡ line_says (by_name (f j) (g d)) k q) × CameBy j d s' (line_next k q)
