-- Passages that may stand one after another.
use Rattle.std.proofs.Common.{◌≡◌, ℕ, zero, suc, ◌<◌, ◌≤◌, true, ◌&&◌, ltb, List, [], ◌∷◌, ◌++◌, length, get_or, drop, refl, arith}
use Rattle.std.proofs.lemmas.Bool.{and_parts, and_from, lt-ltb, ltb-true}
use Rattle.std.specs.List.{remove}
use Rattle.passages.specs.Fields.{serial_of, formed, priced, fits_after}
use Rattle.passages.specs.Rows.{last_serial, in_order}

above : (n : ℕ) (m : List ℕ) → fits_after n m ≡ true → n < serial_of m
above n m h = ltb-true n (serial_of m) (and_parts (ltb n (serial_of m)) (formed m && priced m) h).0

fits_lower : (k n : ℕ) (m : List ℕ) → k ≤ n → fits_after n m ≡ true → fits_after k m ≡ true
fits_lower k n m l h =
    let p = and_parts (ltb n (serial_of m)) (formed m && priced m) h in
    and_from (ltb k (serial_of m)) (formed m && priced m) (lt-ltb k (serial_of m) (omega (arith, ltb-true n (serial_of m) p.0))) p.1

pub in_order_push : (n : ℕ) (ms : List (List ℕ)) (m : List ℕ) → in_order n ms ≡ true → fits_after (last_serial n ms) m ≡ true → in_order n (ms ++ m ∷ []) ≡ true
in_order_push n [] m h l = and_from (fits_after n m) true l refl
in_order_push n (x ∷ ms) m h l =
    let p = and_parts (fits_after n x) (in_order (serial_of x) ms) h in
    and_from (fits_after n x) (in_order (serial_of x) (ms ++ m ∷ [])) p.0 (in_order_push (serial_of x) ms m p.1 l)

in_order_lower : (k n : ℕ) (ms : List (List ℕ)) → k ≤ n → in_order n ms ≡ true → in_order k ms ≡ true
in_order_lower k n [] l h = refl
in_order_lower k n (m ∷ ms) l h =
    let p = and_parts (fits_after n m) (in_order (serial_of m) ms) h in
    and_from (fits_after k m) (in_order (serial_of m) ms) (fits_lower k n m l p.0) p.1

pub in_order_removed : (n : ℕ) (ms : List (List ℕ)) (i : ℕ) → in_order n ms ≡ true → in_order n (remove ms i) ≡ true
in_order_removed n [] zero h = refl
in_order_removed n [] (suc i) h = refl
in_order_removed n (m ∷ ms) zero h =
    let p = and_parts (fits_after n m) (in_order (serial_of m) ms) h in
    in_order_lower n (serial_of m) ms (omega (arith, above n m p.0)) p.1
in_order_removed n (m ∷ ms) (suc i) h =
    let p = and_parts (fits_after n m) (in_order (serial_of m) ms) h in
    and_from (fits_after n m) (in_order (serial_of m) (remove ms i)) p.0 (in_order_removed (serial_of m) ms i p.1)

pub in_order_rest : (n : ℕ) (ms : List (List ℕ)) → 0 < length ms → in_order n ms ≡ true → (n < serial_of (get_or ms 0 [])) × (in_order (serial_of (get_or ms 0 [])) (drop 1 ms) ≡ true)
in_order_rest n [] l h = absurd (omega arith)
in_order_rest n (m ∷ ms) l h =
    let p = and_parts (fits_after n m) (in_order (serial_of m) ms) h in
    (above n m p.0, p.1)
