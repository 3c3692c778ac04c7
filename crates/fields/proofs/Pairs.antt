-- Digits, two at a time.
use Rattle.std.proofs.Common.{◌≡◌, ℕ, zero, suc, ◌+◌, ◌*◌, ◌<◌, true, List, [], ◌∷◌, length, get_or, refl, ap, arith}
use Rattle.std.proofs.lemmas.List.Recursion.{and_at}
use Rattle.fields.specs.Hex.{is_hex_digit, all_hex, nibble, bytes_of}

pub digit_at : (xs : List ℕ) (k : ℕ) → all_hex xs ≡ true → k < length xs → is_hex_digit (get_or xs k 0) ≡ true
digit_at xs k e h = and_at all_hex is_hex_digit refl (λ _ _. refl) xs k 0 h e

pub byte_at : (xs : List ℕ) (k : ℕ) → 2 * k + 1 < length xs → get_or (bytes_of xs) k 0 ≡ 16 * nibble (get_or xs (2 * k) 0) + nibble (get_or xs (2 * k + 1) 0)
byte_at [] k h = absurd (omega (arith, h))
byte_at (x ∷ []) k h = absurd (omega (arith, h))
byte_at (x ∷ (y ∷ xs)) zero h = refl
byte_at (x ∷ (y ∷ xs)) (suc k) h =
    let high : 2 * suc k ≡ suc (suc (2 * k)) = omega arith in
    let low : 2 * suc k + 1 ≡ suc (suc (2 * k + 1)) = omega arith in
    rw (low, high) (byte_at xs k (omega (arith, h)))

pub length_bytes : (k : ℕ) (xs : List ℕ) → length xs ≡ 2 * k → length (bytes_of xs) ≡ k
length_bytes zero [] h = refl
length_bytes zero (x ∷ xs) h = absurd (omega (arith, h))
length_bytes (suc k) [] h = absurd (omega (arith, h))
length_bytes (suc k) (x ∷ []) h = absurd (omega (arith, h))
length_bytes (suc k) (x ∷ (y ∷ xs)) h = ap suc (length_bytes k xs (omega (arith, h)))
