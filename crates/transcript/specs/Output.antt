-- The answers to a text of requests.
use Rattle.std.specs.Prelude.{◌≡◌, ℕ, ◌+◌, ◌<◌, ◌≤◌, cond, List, [], ◌∷◌, ◌++◌, length, take, None, Ok, Err, vec_items, vec_capacity, Option, Result, Vec, ◌==◌}
use Rattle.press.specs.Meaning.{Meaning}
use Rattle.std.specs.declared.alloc.AllocError.{AllocError}
use Rattle.std.specs.declared.alloc.Global.{Global}
use Rattle.requests.specs.declared.request.PressName.{PressName}
use Rattle.requests.specs.declared.request.LineRequest.{LineRequest}
use Rattle.requests.specs.Requests.{request_of}
use Rattle.answers.specs.Said.{line_of}
use Rattle.sessions.specs.Courses.{by_name, Course, no_roll, line_says, line_next}
use Rattle.sessions.specs.Sessions.{CameBy}
use Rattle.sessions.specs.declared.state.Session.{Session}

-- the requests of the lines of a text, with l before it on its first line; a last part without a line feed is no request
abbrev pub requests_on : List ℕ → List ℕ → List (Option LineRequest)
requests_on l [] = cond (length l == 0) [] (None ∷ [])
requests_on l (b ∷ t) = cond (b == 10) (request_of l ∷ requests_on [] t) (requests_on (l ++ b ∷ []) t)

abbrev pub requests : List ℕ → List (Option LineRequest)
requests t = requests_on [] t

-- the lines that answer them, one after the other
abbrev pub answers_on : (PressName → Meaning) → Course → List (Option LineRequest) → List ℕ
answers_on m k [] = []
answers_on m k (q ∷ qs) = line_of (line_says m k q) ++ answers_on m (line_next k q) qs

-- the answers to the first 65,536 bytes of a text
abbrev pub output : (PressName → Meaning) → List ℕ → List ℕ
output m t = answers_on m no_roll (requests (take 65536 t))

-- t was added at the end of v, which is w now; or v had no room for it, and w has the same bytes
abbrev pub Added : Result (Unit {0}) AllocError → Vec ℕ Global → Vec ℕ Global → List ℕ → Type 0
Added (Ok u) v w t = (vec_items w ≡ vec_items v ++ t) × (vec_capacity v ≤ vec_capacity w)
Added (Err e) v w t = (vec_items w ≡ vec_items v) × (vec_capacity v < length (vec_items v) + length t)

-- the same, where w may have more bytes behind those of v
abbrev pub Fronted : Result (Unit {0}) AllocError → Vec ℕ Global → Vec ℕ Global → List ℕ → Type 0
Fronted (Ok u) v w t = (vec_items w ≡ vec_items v ++ t) × (vec_capacity v ≤ vec_capacity w)
Fronted (Err e) v w t = (take (length (vec_items v)) (vec_items w) ≡ vec_items v) × (vec_capacity v < length (vec_items v) + length t)

-- the lines of the text t on a session, with their answers added to v, which is w now: for every course by which the session came
abbrev pub Runs : {J D : Type 0} → (J → Meaning) → (D → Meaning) → Session J D → List ℕ → Vec ℕ Global → Vec ℕ Global → Result (Unit {0}) AllocError → Type 0
Runs {J = J} {D = D} f g s t v w r =
    (j : J) (d : D) (k : Course) → CameBy f g j d s k → Fronted r v w (answers_on (by_name (f j) (g d)) k (requests t))
