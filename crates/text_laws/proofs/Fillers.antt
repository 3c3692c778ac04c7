-- Passages that may follow any other: each serial is one above the one before.
use Rattle.std.proofs.Common.{◌≡◌, ℕ, zero, suc, ◌+◌, ◌/◌, ◌%◌, ◌<◌, ◌≤◌, true, ◌&&◌, List, [], ◌∷◌, ◌++◌, length, replicate, refl, ap, ◌∙◌, arith, lit<}
use Rattle.std.specs.List.{AllByRecursion}
use Rattle.std.proofs.lemmas.Bool.{and_parts, and_from, lt-ltb}
use Rattle.byte_strings.specs.Bytes.{Bytes}
use Rattle.byte_strings.proofs.Strings.{bytes_all}
use Rattle.passages.specs.Fields.{serial_of, fits_after, formed, priced}
use Rattle.passages.specs.Rows.{in_order, last_serial}

-- class 1, version 1, the serial n, and zero in all other fields
abbrev pub filler : ℕ → List ℕ
filler n = 0 ∷ (0 ∷ (0 ∷ (0 ∷ (n / 16777216 ∷ (n / 65536 % 256 ∷ (n / 256 % 256 ∷ (n % 256 ∷ (replicate 8 0 ++ (1 ∷ (1 ∷ replicate 46 0))))))))))

-- k of them, with the serials after n
abbrev pub fillers : ℕ → ℕ → List (List ℕ)
fillers zero n = []
fillers (suc k) n = filler (n + 1) ∷ fillers k (n + 1)

pub length_fillers : (k n : ℕ) → length (fillers k n) ≡ k
length_fillers zero n = refl
length_fillers (suc k) n = ap suc (length_fillers k (n + 1))

serial_filler : (n : ℕ) → serial_of (filler n) ≡ n
serial_filler n = omega arith

zeros_small : (n : ℕ) → AllByRecursion (λ b. b < 256) (replicate n 0)
zeros_small zero = tt
zeros_small (suc n) = (lit< tt, zeros_small n)

filler_bytes : (n : ℕ) → n ≤ 4294967295 → Bytes 64 (filler n)
filler_bytes n h =
    bytes_all 64 (filler n) refl (
      lit< tt,
      (
        lit< tt,
        (
          lit< tt,
          (
            lit< tt,
            (
              omega arith,
              (
                omega arith,
                (
                  omega arith,
                  (
                    omega arith,
                    (lit< tt, (lit< tt, (lit< tt, (lit< tt, (lit< tt, (lit< tt, (lit< tt, (lit< tt, (lit< tt, (lit< tt, zeros_small 46)))))))))),
                  ),
                ),
              ),
            ),
          ),
        ),
      ),
    )

filler_fits : (n : ℕ) → fits_after n (filler (n + 1)) ≡ true
filler_fits n =
    let e = serial_filler (n + 1) in
    and_from _ (formed (filler (n + 1)) && priced (filler (n + 1))) (lt-ltb n (serial_of (filler (n + 1))) (omega (arith, e))) refl

pub fillers_stand : (k n : ℕ) → n + k ≤ 4294967295 → AllByRecursion (Bytes 64) (fillers k n) × (in_order n (fillers k n) ≡ true)
fillers_stand zero n h = (tt, refl)
fillers_stand (suc k) n h =
    let r = fillers_stand k (n + 1) (omega (arith, h)) in (
      (filler_bytes (n + 1) (omega (arith, h)), r.0),
      and_from (fits_after n (filler (n + 1))) _ (filler_fits n) (ap (λ m. in_order m (fillers k (n + 1))) (serial_filler (n + 1)) ∙ r.1),
    )

-- rows in order, one after the other
pub in_order_append : (n : ℕ) (ms ks : List (List ℕ)) → in_order n ms ≡ true → in_order (last_serial n ms) ks ≡ true → in_order n (ms ++ ks) ≡ true
in_order_append n [] ks h g = g
in_order_append n (m ∷ ms) ks h g =
    let p = and_parts (fits_after n m) (in_order (serial_of m) ms) h in
    and_from (fits_after n m) _ p.0 (in_order_append (serial_of m) ms ks p.1 g)
