-- The exclusive or of byte strings.
use Rattle.std.proofs.Common.{◌≡◌, ℕ, zero, suc, ◌+◌, ◌<◌, ◌≤◌, min, List, [], ◌∷◌, ◌++◌, length, get_or, take, drop, set, sym, refl, ap, ◌∙◌, ap₂, le_of_suc-le-suc, not-suc-le-zero, arith}
use lib.Bits.{bit_xor, xor_self, xor_assoc, xor_zero_r, xor_lt}
use Rattle.std.proofs.lemmas.List.{take-append-drop}
use Rattle.byte_strings.specs.Bytes.{xored}
use Rattle.byte_strings.proofs.Over.{over, over_at, over_more}

xor_twice : (a b : ℕ) → bit_xor (bit_xor a b) b ≡ a
xor_twice a b = xor_assoc a b b ∙ ap (bit_xor a) (xor_self b) ∙ xor_zero_r a

pub length_xored : (xs ms : List ℕ) → length (xored xs ms) ≡ length xs
length_xored [] ms = refl
length_xored (x ∷ xs) [] = refl
length_xored (x ∷ xs) (m ∷ ms) = ap suc (length_xored xs ms)

pub xored_twice : (xs ms : List ℕ) → xored (xored xs ms) ms ≡ xs
xored_twice [] ms = refl
xored_twice (x ∷ xs) [] = refl
xored_twice (x ∷ xs) (m ∷ ms) = ap₂ (λ (y : ℕ) (ys : List ℕ). y ∷ ys) (xor_twice x m) (xored_twice xs ms)

-- below 256 at every place, past the end too
pub xored_small : (xs ms : List ℕ) → ((k : ℕ) → get_or xs k 0 < 256) → ((k : ℕ) → get_or ms k 0 < 256) → (k : ℕ) → get_or (xored xs ms) k 0 < 256
xored_small [] ms s t k = s k
xored_small (x ∷ xs) [] s t k = s k
xored_small (x ∷ xs) (m ∷ ms) s t zero = xor_lt 8 x m (s 0) (t 0)
xored_small (x ∷ xs) (m ∷ ms) s t (suc k) = xored_small xs ms (λ j. s (suc j)) (λ j. t (suc j)) k

pub xored_at : (xs ms : List ℕ) (i : ℕ) → i < length xs → i < length ms → get_or (xored xs ms) i 0 ≡ bit_xor (get_or xs i 0) (get_or ms i 0)
xored_at [] ms i h g = absurd (not-suc-le-zero h)
xored_at (a ∷ xs) [] i h g = absurd (not-suc-le-zero g)
xored_at (a ∷ xs) (m ∷ ms) zero h g = refl
xored_at (a ∷ xs) (m ∷ ms) (suc i) h g = xored_at xs ms i (le_of_suc-le-suc h) (le_of_suc-le-suc g)

-- where the mask ends, the string stays
pub xored_past : (xs ms : List ℕ) (n : ℕ) → min (length xs) (length ms) ≤ n → drop n (xored xs ms) ≡ drop n xs
xored_past [] ms n h = refl
xored_past (x ∷ xs) [] n h = refl
xored_past (x ∷ xs) (m ∷ ms) zero h = absurd (let no : ⊥ = omega arith in no)
xored_past (x ∷ xs) (m ∷ ms) (suc n) h = xored_past xs ms n (omega arith)

-- the whole mask is in
pub mask_all : (xs ms : List ℕ) (n : ℕ) → min (length xs) (length ms) ≤ n → over n (xored xs ms) xs ≡ xored xs ms
mask_all xs ms n h = ap (λ (ys : List ℕ). take n (xored xs ms) ++ ys) (sym (xored_past xs ms n h)) ∙ take-append-drop n (xored xs ms)

-- a turn of the loop that masks
pub mask_more : (xs ms : List ℕ) (i : ℕ) → i < length xs → i < length ms
    → set (over i (xored xs ms) xs) i (bit_xor (get_or (over i (xored xs ms) xs) i 0) (get_or ms i 0)) ≡ over (i + 1) (xored xs ms) xs
mask_more xs ms i h g =
    let n = length_xored xs ms in
    ap (λ (a : ℕ). set (over i (xored xs ms) xs) i (bit_xor a (get_or ms i 0))) (over_at i (xored xs ms) xs i n (omega arith) h)
    ∙ ap (set (over i (xored xs ms) xs) i) (sym (xored_at xs ms i h g))
    ∙ over_more i (xored xs ms) xs n h

xored_none : (xs : List ℕ) → xored xs [] ≡ xs
xored_none [] = refl
xored_none (x ∷ xs) = refl

-- a mask of at most n bytes stays in the first n
pub xored_front : (n : ℕ) (xs ms : List ℕ) → length ms ≤ n → xored (take n xs) ms ++ drop n xs ≡ xored xs ms
xored_front zero xs [] h = sym (xored_none xs)
xored_front zero xs (m ∷ ms) h = absurd (not-suc-le-zero h)
xored_front (suc n) [] ms h = refl
xored_front (suc n) (x ∷ xs) [] h = ap (λ (ys : List ℕ). x ∷ ys) (take-append-drop n xs)
xored_front (suc n) (x ∷ xs) (m ∷ ms) h = ap (λ (ys : List ℕ). bit_xor x m ∷ ys) (xored_front n xs ms (le_of_suc-le-suc h))
