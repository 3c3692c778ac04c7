-- Part of a text is answered.
use Rattle.std.proofs.Common.{◌≡◌, ℕ, ◌+◌, ◌<◌, ◌≤◌, List, [], ◌++◌, length, take, Some, None, Ok, Err, is_err, true, false, vec_items, vec_capacity, Result, Vec, sym, refl, ap, ◌∙◌, append_assoc, append-nil, arith, length-append}
use Rattle.press.specs.Meaning.{Meaning}
use Rattle.std.proofs.lemmas.List.{take_at}
use Rattle.std.specs.declared.alloc.AllocError.{AllocError}
use Rattle.std.specs.declared.alloc.Global.{Global}
use Rattle.fields.specs.Cuts.{cut_at}
use Rattle.requests.specs.Requests.{request_of}
use Rattle.answers.specs.Said.{said, line_of}
use Rattle.answers.specs.declared.answer.LineAnswer.{LineAnswer}
use Rattle.sessions.specs.Courses.{Course, by_name, line_next, not_allowed}
use Rattle.sessions.specs.Sessions.{CameBy, GoesOn}
use Rattle.sessions.specs.declared.state.Session.{Session}
use Rattle.transcript.specs.Output.{requests, answers_on, Added, Fronted}
use Rattle.transcript.proofs.Lines.{first_request, no_request, part_request}

-- what failed is cut back to the bytes that stood before
pub cut_back : (r : Result (Unit {0}) AllocError) (v w w' : Vec ℕ Global) (t : List ℕ) → is_err r ≡ true → vec_items w' ≡ take (length (vec_items v)) (vec_items w)
    → Fronted r v w t → Added r v w' t
cut_back (Ok u) v w w' t e cut h = cc
cut_back (Err x) v w w' t e cut h = (cut ∙ h.0, h.1)

-- and what did not fail stays
pub stays : (r : Result (Unit {0}) AllocError) (v w : Vec ℕ Global) (t : List ℕ) → is_err r ≡ false → Fronted r v w t → Added r v w t
stays (Ok u) v w t e h = h
stays (Err x) v w t e h = cc

module _ {J D : Type 0} (f : J → Meaning) (g : D → Meaning) where
  abbrev all_answers : J → D → Course → List ℕ → List ℕ
  all_answers j d k t = answers_on (by_name (f j) (g d)) k (requests t)

  -- a session that came by k, and whose text was t, stands at s now, with the text u left: the bytes ys were added to v, which is w now
  pub record At (j : J) (d : D) (k : Course) (t : List ℕ) (v : Vec ℕ Global) (s : Session J D) (u : List ℕ) (w : Vec ℕ Global) : Type 0 where
    pub course : Course
    pub added : List ℕ
    pub came : CameBy f g j d s course
    pub items : vec_items w ≡ vec_items v ++ added
    pub left : added ++ all_answers j d course u ≡ all_answers j d k t
    pub room : vec_capacity v ≤ vec_capacity w

  -- the same for every course by which it came
  abbrev pub CameTo : Session J D → List ℕ → Vec ℕ Global → Session J D → List ℕ → Vec ℕ Global → Type 0
  CameTo s0 t v s u w = (j : J) (d : D) (k : Course) → CameBy f g j d s0 k → At j d k t v s u w

  pub starts : (s : Session J D) (t : List ℕ) (v : Vec ℕ Global) → CameTo s t v s t v
  starts s t v j d k h = record { course = k; added = []; came = h; items = sym (append-nil (vec_items v)); left = refl; room = omega arith }

  module _ (s0 : Session J D) (t : List ℕ) (v : Vec ℕ Global) (s : Session J D) (u : List ℕ) (w : Vec ℕ Global) (came : CameTo s0 t v s u w) where
    -- one line more
    pub goes : (s' : Session J D) (w' : Vec ℕ Global) (a : LineAnswer) (l r : List ℕ) → cut_at 10 u ≡ Some (l, r) → GoesOn f g s (request_of l) s' a
        → (vec_items w' ≡ vec_items w ++ line_of (said a)) × (vec_capacity w ≤ vec_capacity w') → CameTo s0 t v s' r w'
    goes s' w' a l r e go put j d k h =
        let at = came j d k h in
        let c = at.course in
        let x = go j d at.course at.came in
        let m = by_name (f j) (g d) in
        let b1 = at.room in
        let b2 = put.1 in
        record {
          course = line_next c (request_of l);
          added = at.added ++ line_of (said a);
          came = x.1;
          items = put.0 ∙ ap (λ y. y ++ line_of (said a)) at.items ∙ append_assoc (vec_items v) at.added (line_of (said a));
          left = append_assoc at.added (line_of (said a)) (all_answers j d (line_next c (request_of l)) r)
              ∙ ap (λ y. at.added ++ (line_of y ++ all_answers j d (line_next c (request_of l)) r)) x.0
              ∙ ap (λ qs. at.added ++ answers_on m c qs) (sym (first_request u l r e))
              ∙ at.left;
          room = omega (arith, b1, b2);
        }

    -- no room for a line
    pub stops : (w' : Vec ℕ Global) (s' : Session J D) (a : LineAnswer) (l r : List ℕ) → cut_at 10 u ≡ Some (l, r) → GoesOn f g s (request_of l) s' a
        → (vec_items w' ≡ vec_items w) × (vec_capacity w < length (vec_items w) + length (line_of (said a)))
        → (j : J) (d : D) (k : Course) → CameBy f g j d s0 k → (take (length (vec_items v)) (vec_items w') ≡ vec_items v) × (vec_capacity v < length (vec_items v) + length (all_answers j d k t))
    stops w' s' a l r e go put j d k h =
        let at = came j d k h in
        let c = at.course in
        let x = go j d at.course at.came in
        let m = by_name (f j) (g d) in
        let rest = all_answers j d (line_next at.course (request_of l)) r in
        let whole : at.added ++ (line_of (said a) ++ rest) ≡ all_answers j d k t =
        ap (λ y. at.added ++ (line_of y ++ rest)) x.0 ∙ ap (λ qs. at.added ++ answers_on m c qs) (sym (first_request u l r e)) ∙ at.left in
        let n = sym (ap length whole) ∙ length-append at.added (line_of (said a) ++ rest) in
        let n2 = length-append (line_of (said a)) rest in
        let o = ap length at.items ∙ length-append (vec_items v) at.added in
        let lack = put.1 in
        let room = at.room in
        (ap (take (length (vec_items v))) (put.0 ∙ at.items) ∙ take_at (vec_items v) at.added (length (vec_items v)) refl, omega (arith, n, n2, o, lack, room))

    -- all lines are answered
    pub ends : cut_at 10 u ≡ None → length u ≡ 0 → (j : J) (d : D) (k : Course) → CameBy f g j d s0 k → (vec_items w ≡ vec_items v ++ all_answers j d k t) × (vec_capacity v ≤ vec_capacity w)
    ends e z j d k h =
        let at = came j d k h in
        let m = by_name (f j) (g d) in
        let all : at.added ≡ all_answers j d k t = sym (append-nil at.added) ∙ ap (λ qs. at.added ++ answers_on m at.course qs) (sym (no_request u e z)) ∙ at.left in
        (at.items ∙ ap (λ y. vec_items v ++ y) all, at.room)

    -- a part without its line feed is left
    whole : (e : cut_at 10 u ≡ None) (z : length u ≡ 0 → ⊥) (j : J) (d : D) (k : Course) (h : CameBy f g j d s0 k) → (came j d k h).added ++ line_of not_allowed ≡ all_answers j d k t
    whole e z j d k h =
        let at = came j d k h in
        let m = by_name (f j) (g d) in
        ap (λ y. at.added ++ y) (sym (append-nil (line_of not_allowed))) ∙ ap (λ qs. at.added ++ answers_on m at.course qs) (sym (part_request u e z)) ∙ at.left

    pub last : (r : Result (Unit {0}) AllocError) (w' : Vec ℕ Global) → cut_at 10 u ≡ None → (length u ≡ 0 → ⊥) → Added r w w' (line_of not_allowed)
        → (j : J) (d : D) (k : Course) → CameBy f g j d s0 k → Fronted r v w' (all_answers j d k t)
    last (Ok x) w' e z put j d k h =
        let at = came j d k h in
        let b1 = at.room in
        let b2 = put.1 in
        (put.0 ∙ ap (λ y. y ++ line_of not_allowed) at.items ∙ append_assoc (vec_items v) at.added (line_of not_allowed) ∙ ap (λ y. vec_items v ++ y) (whole e z j d k h), omega (arith, b1, b2))
    last (Err x) w' e z put j d k h =
        let at = came j d k h in
        let n = sym (ap length (whole e z j d k h)) ∙ length-append at.added (line_of not_allowed) in
        let o = ap length at.items ∙ length-append (vec_items v) at.added in
        let lack = put.1 in
        let room = at.room in
        (ap (take (length (vec_items v))) (put.0 ∙ at.items) ∙ take_at (vec_items v) at.added (length (vec_items v)) refl, omega (arith, n, o, lack, room))
