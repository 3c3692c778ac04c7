-- What the operations on numbers do to each bit.
use Rattle.std.proofs.Common.{◌≡◌, ℕ, zero, suc, ◌+◌, ◌-◌, ◌*◌, ◌/◌, ◌%◌, ◌^◌, ◌<◌, Bool, true, false, not, ◌&&◌, ◌||◌, eqb, sym, refl, ap, ◌∙◌, le_of_suc-le-suc, not-suc-le-zero, mod-lt, mod-eq_of_lt, mul_assoc, pow-suc, add-one, arith, lit<, pow-add, shr-shr}
use native.Mathlib.Nat.{mul-mod_left}
use lib.Bits.{bit_and, bit_or, bit_xor, and_shr, or_shr, xor_shr, and_mod, or_mod, xor_mod, xor_add_and, and_mask}
use lib.Pow.{shl-shr, field, mod-mod-pow}
use Rattle.jh.specs.Bit.{odd, bit, differ}
use Rattle.jh.proofs.Below.{below_at, same}
use mathlib.Core.Bool.{beq}

digit_cases : (P : ℕ → Type 0) → P 0 → P 1 → (m : ℕ) → m < 2 → P m
digit_cases P p q zero h = p
digit_cases P p q (suc zero) h = q
digit_cases P p q (suc (suc m)) h = absurd (not-suc-le-zero (le_of_suc-le-suc (le_of_suc-le-suc h)))

-- the lowest digit of a number, by cases
digit : (P : ℕ → Type 0) → P 0 → P 1 → (n : ℕ) → P (n % 2)
digit P p q n = digit_cases P p q (n % 2) (mod-lt n (lit< tt))

odd_and : (a b : ℕ) → odd (bit_and a b) ≡ (odd a && odd b)
odd_and a b =
    ap (λ (m : ℕ). eqb m 1) (and_mod a b 1)
    ∙ digit (λ (x : ℕ). eqb (bit_and x (b % 2)) 1 ≡ (eqb x 1 && odd b))
    (digit (λ (y : ℕ). eqb (bit_and 0 y) 1 ≡ (false && eqb y 1)) refl refl b)
    (digit (λ (y : ℕ). eqb (bit_and 1 y) 1 ≡ (true && eqb y 1)) refl refl b) a

odd_or : (a b : ℕ) → odd (bit_or a b) ≡ (odd a || odd b)
odd_or a b =
    ap (λ (m : ℕ). eqb m 1) (or_mod a b 1)
    ∙ digit (λ (x : ℕ). eqb (bit_or x (b % 2)) 1 ≡ (eqb x 1 || odd b))
    (digit (λ (y : ℕ). eqb (bit_or 0 y) 1 ≡ (false || eqb y 1)) refl refl b)
    (digit (λ (y : ℕ). eqb (bit_or 1 y) 1 ≡ (true || eqb y 1)) refl refl b) a

odd_xor : (a b : ℕ) → odd (bit_xor a b) ≡ differ (odd a) (odd b)
odd_xor a b =
    ap (λ (m : ℕ). eqb m 1) (xor_mod a b 1)
    ∙ digit (λ (x : ℕ). eqb (bit_xor x (b % 2)) 1 ≡ differ (eqb x 1) (odd b))
    (digit (λ (y : ℕ). eqb (bit_xor 0 y) 1 ≡ differ false (eqb y 1)) refl refl b)
    (digit (λ (y : ℕ). eqb (bit_xor 1 y) 1 ≡ differ true (eqb y 1)) refl refl b) a

pub bit_of_and : (a b k : ℕ) → bit (bit_and a b) k ≡ (bit a k && bit b k)
bit_of_and a b k = ap odd (and_shr a b k) ∙ odd_and (a / 2 ^ k) (b / 2 ^ k)

pub bit_of_or : (a b k : ℕ) → bit (bit_or a b) k ≡ (bit a k || bit b k)
bit_of_or a b k = ap odd (or_shr a b k) ∙ odd_or (a / 2 ^ k) (b / 2 ^ k)

pub bit_of_xor : (a b k : ℕ) → bit (bit_xor a b) k ≡ differ (bit a k) (bit b k)
bit_of_xor a b k = ap odd (xor_shr a b k) ∙ odd_xor (a / 2 ^ k) (b / 2 ^ k)

-- the complement of a number of 64 bits is its sum with ones
not_xor : (a : ℕ) → a < 2 ^ 64 → (2 ^ 64 - 1) - a ≡ bit_xor a (2 ^ 64 - 1)
not_xor a h = omega (arith, xor_add_and a (2 ^ 64 - 1), and_mask a 64 ∙ mod-eq_of_lt h)

ones_at : (k : ℕ) → k < 64 → bit (2 ^ 64 - 1) k ≡ true
ones_at k h = same (bit (2 ^ 64 - 1) k) true (below_at 64 (λ i. beq (bit (2 ^ 64 - 1) i) true) tt k h)

differ_true : (b : Bool) → differ b true ≡ not b
differ_true true = refl
differ_true false = refl

pub bit_not : (a k : ℕ) → a < 2 ^ 64 → k < 64 → bit ((2 ^ 64 - 1) - a) k ≡ not (bit a k)
bit_not a k ha hk =
    ap (λ (m : ℕ). bit m k) (not_xor a ha) ∙ bit_of_xor a (2 ^ 64 - 1) k ∙ ap (differ (bit a k)) (ones_at k hk)
    ∙ differ_true (bit a k)

pub bit_of_shr : (a n k : ℕ) → bit (a / 2 ^ n) k ≡ bit a (n + k)
bit_of_shr a n k = ap odd (shr-shr a n k)

-- the lower w bits of a number
pub bit_of_mod : (a w k : ℕ) → k < w → bit (a % 2 ^ w) k ≡ bit a k
bit_of_mod a w k h =
    let j : ℕ = w - suc k in
    let e : w ≡ suc j + k = omega arith in
    ap (λ (m : ℕ). odd (a % 2 ^ m / 2 ^ k)) e ∙ ap odd (field a (suc j) k)
    ∙ ap (λ (m : ℕ). eqb (a / 2 ^ k % 2 ^ m % 2) 1) (sym (add-one j)) ∙ ap (λ (m : ℕ). eqb m 1) (mod-mod-pow (a / 2 ^ k) j 1)

pub bit_of_shl_high : (a n k : ℕ) → bit (a * 2 ^ n) (n + k) ≡ bit a k
bit_of_shl_high a n k = ap odd (sym (shr-shr (a * 2 ^ n) n k) ∙ ap (λ (m : ℕ). m / 2 ^ k) (shl-shr a n))

pub bit_of_shl_low : (a n k : ℕ) → k < n → bit (a * 2 ^ n) k ≡ false
bit_of_shl_low a n k h =
    let j : ℕ = n - suc k in
    let e : n ≡ suc j + k = omega arith in
    ap (λ (m : ℕ). odd (a * 2 ^ m / 2 ^ k)) e
    ∙ ap (λ (m : ℕ). odd (a * m / 2 ^ k)) (pow-add 2 (suc j) k)
    ∙ ap (λ (m : ℕ). odd (m / 2 ^ k)) (sym (mul_assoc a (2 ^ suc j) (2 ^ k)))
    ∙ ap odd (shl-shr (a * 2 ^ suc j) k)
    ∙ ap (λ (m : ℕ). odd (a * m)) (pow-suc 2 j)
    ∙ ap odd (sym (mul_assoc a (2 ^ j) 2))
    ∙ ap (λ (m : ℕ). eqb m 1) (mul-mod_left (a * 2 ^ j) 2)
