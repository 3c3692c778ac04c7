-- A search for a serial.
use Rattle.std.proofs.Common.{◌≡◌, ℕ, zero, suc, ◌+◌, ◌<◌, true, false, eqb, List, [], ◌∷◌, length, get_or, drop, refl, ap, arith, eq-eqb, ne_eqb}
use Rattle.std.specs.List.{remove}
use Rattle.passages.specs.Fields.{serial_of}
use Rattle.passages.specs.Rows.{has, without, onward, later}

abbrev pub Before : List (List ℕ) → ℕ → ℕ → Type 0
Before ms n i = (k : ℕ) → k < i → serial_of (get_or ms k []) ≡ n → ⊥

-- the first passage has another serial
other : (m : List ℕ) (n : ℕ) → (serial_of m ≡ n → ⊥) → eqb (serial_of m) n ≡ false
other m n h = ne_eqb (serial_of m) n h

pub not_had : (ms : List (List ℕ)) (n : ℕ) → Before ms n (length ms) → has n ms ≡ false
not_had [] n h = refl
not_had (m ∷ ms) n h =
    let e = other m n (h 0 (omega arith)) in
    let r = not_had ms n (λ k l. h (suc k) (omega arith)) in
    rw (e, r)

pub had : (ms : List (List ℕ)) (n i : ℕ) → i < length ms → serial_of (get_or ms i []) ≡ n → Before ms n i → has n ms ≡ true
had [] n i l e h = absurd (omega arith)
had (m ∷ ms) n zero l e h = rw (eq-eqb (serial_of m) n e)
had (m ∷ ms) n (suc i) l e h =
    let o = other m n (h 0 (omega arith)) in
    let r = had ms n i (omega arith) e (λ k q. h (suc k) (omega arith)) in
    rw (o, r)

pub taken_out : (ms : List (List ℕ)) (n i : ℕ) → i < length ms → serial_of (get_or ms i []) ≡ n → Before ms n i → remove ms i ≡ without n ms
taken_out [] n i l e h = absurd (omega arith)
taken_out (m ∷ ms) n zero l e h = rw (eq-eqb (serial_of m) n e)
taken_out (m ∷ ms) n (suc i) l e h =
    let o = other m n (h 0 (omega arith)) in
    let r = taken_out ms n i (omega arith) e (λ k q. h (suc k) (omega arith)) in
    rw o (ap (λ x. m ∷ x) r)

pub from_there : (ms : List (List ℕ)) (n i : ℕ) → i < length ms → serial_of (get_or ms i []) ≡ n → Before ms n i → (drop i ms ≡ onward n ms) × (drop (i + 1) ms ≡ later n ms)
from_there [] n i l e h = absurd (omega arith)
from_there (m ∷ ms) n zero l e h = let q = eq-eqb (serial_of m) n e in (rw q, rw q)
from_there (m ∷ ms) n (suc i) l e h =
    let o = other m n (h 0 (omega arith)) in
    let r = from_there ms n i (omega arith) e (λ k q. h (suc k) (omega arith)) in
    let one : suc i + 1 ≡ suc (i + 1) = omega arith in
    (rw o r.0, rw (o, one) r.1)
