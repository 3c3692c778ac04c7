-- Bits packed into bytes.
use Rattle.std.proofs.Common.{◌≡◌, ℕ, zero, suc, ◌+◌, ◌-◌, ◌*◌, ◌/◌, ◌%◌, ◌^◌, ◌<◌, ◌≤◌, Bool, true, false, cond, eqb, List, [], ◌∷◌, ◌++◌, length, get_or, take, drop, replicate, sym, refl, ap, ◌∙◌, ap₂, mod-lt, add_comm, suc-add, one-mul, pow-suc, zero-add, zero-mul, arith, lit<, eqb→eq, pow-add}
use native.Mathlib.Nat.{mod-one}
use lib.Pow.{mod-pow-add}
use Rattle.std.proofs.lemmas.List.{take-append-le, drop-append-le, length-drop, nil_from_length}
use Rattle.std.proofs.lemmas.Nat.{shr-shr}
use Rattle.byte_strings.specs.Bytes.{big_endian}
use Rattle.jh.specs.Bit.{bit, low_bits}
use Rattle.jh.specs.Message.{bits_of, value, packed}
use Rattle.jh.specs.Ending.{marked}
use Rattle.jh.proofs.Below.{below, below_at}
use Rattle.jh.proofs.Lengths.{length_low_bits}

-- ---- the number that bits spell

weighed : (r w : ℕ) → r < 2 → cond (eqb r 1) w 0 ≡ r * w
weighed zero w h = sym (zero-mul w)
weighed (suc zero) w h = sym (one-mul w)
weighed (suc (suc r)) w h = absurd (let no : ⊥ = omega arith in no)

pub value_low_bits : (k n : ℕ) → value (low_bits k n) ≡ n % 2 ^ k
value_low_bits zero n = sym (mod-one n)
value_low_bits (suc k) n =
    ap₂ ◌+◌
    (ap (λ (j : ℕ). cond (bit n k) (2 ^ j) 0) (length_low_bits k n) ∙ weighed (n / 2 ^ k % 2) (2 ^ k) (mod-lt (n / 2 ^ k) (lit< tt)))
    (value_low_bits k n)
    ∙ sym (mod-pow-add n 1 k)
    ∙ ap (λ (j : ℕ). n % 2 ^ j) (let e : 1 + k ≡ suc k = omega arith in e)

-- ---- strings of bytes as bits, and back

pub packed_append : (n k : ℕ) (xs ys : List Bool) → length xs ≡ 8 * n → packed (n + k) (xs ++ ys) ≡ packed n xs ++ packed k ys
packed_append zero k xs ys e = rw (zero-add, nil_from_length xs e)
packed_append (suc n) k xs ys e =
    let l : 8 ≤ length xs = omega arith in
    let t = take-append-le 8 xs ys l in
    let d = drop-append-le 8 xs ys l in
    let i = packed_append n k (drop 8 xs) ys (simp length-drop (omega arith)) in
    rw suc-add (cc)

pub packed_bits_of : (xs : List ℕ) → ((k : ℕ) → get_or xs k 0 < 256) → packed (length xs) (bits_of xs) ≡ xs
packed_bits_of [] h = refl
packed_bits_of (x ∷ xs) h =
    let e : value (low_bits 8 x) ≡ x = omega (arith, value_low_bits 8 x, h 0) in
    let i = packed_bits_of xs (λ k. h (suc k)) in
    cc

eight_more : (n : ℕ) → 8 * suc n ≡ suc (suc (suc (suc (suc (suc (suc (suc (8 * n))))))))
eight_more n = omega arith

pub packed_zeros : (n : ℕ) → packed n (replicate (8 * n) false) ≡ replicate n 0
packed_zeros zero = refl
packed_zeros (suc n) = ap (λ (k : ℕ). packed (suc n) (replicate k false)) (eight_more n) ∙ ap (λ (xs : List ℕ). 0 ∷ xs) (packed_zeros n)

low_bits_split : (j k n : ℕ) → low_bits (j + k) n ≡ low_bits j (n / 2 ^ k) ++ low_bits k n
low_bits_split zero k n = rw zero-add
low_bits_split (suc j) k n =
    let i = low_bits_split j k n in
    let s = shr-shr n k j in
    let a = add_comm k j in
    rw suc-add (cc)

pow_bytes : (k : ℕ) → 2 ^ (8 * k) ≡ 256 ^ k
pow_bytes zero = refl
pow_bytes (suc k) =
    let e : 8 * suc k ≡ 8 * k + 8 = omega arith in
    let p = pow-add 2 (8 * k) 8 in
    let q = pow-suc 256 k in
    let i = pow_bytes k in
    cc

pub packed_number : (k n : ℕ) → packed k (low_bits (8 * k) n) ≡ big_endian k n
packed_number zero n = refl
packed_number (suc k) n =
    let e : 8 * suc k ≡ 8 + 8 * k = omega arith in
    let s = low_bits_split 8 (8 * k) n in
    let v = value_low_bits 8 (n / 2 ^ (8 * k)) in
    let p = pow_bytes k in
    let i = packed_number k n in
    ap (λ (j : ℕ). packed (suc k) (low_bits j n)) e ∙ ap (packed (suc k)) s ∙ cc

-- ---- the byte with the last bits of a message, and the one bit

abbrev last_bits : ℕ → ℕ → List Bool
last_bits r x = take r (low_bits 8 x) ++ (true ∷ replicate (7 - r) false)

abbrev last_test : ℕ → ℕ → Bool
last_test r x = eqb (value (take 8 (last_bits r x))) (marked r x)

-- at each of the 8 counts of bits and the 256 bytes
pub packed_last : (r x : ℕ) → r < 8 → x < 256 → packed 1 (take r (low_bits 8 x) ++ (true ∷ replicate (7 - r) false)) ≡ marked r x ∷ []
packed_last r x h l =
    ap (λ (y : ℕ). y ∷ [])
    (eqb→eq (value (take 8 (last_bits r x))) (marked r x)
    (below_at 256 (last_test r) (below_at 8 (λ s. below 256 (last_test s)) tt r h) x l))

-- a front of a string of bits: whole bytes, and some bits of the next one
pub front_bits : (q r : ℕ) (xs : List ℕ) → r < 8 → 8 * q + r ≤ 8 * length xs
    → take (8 * q + r) (bits_of xs) ≡ bits_of (take q xs) ++ take r (low_bits 8 (get_or xs q 0))
front_bits zero zero [] h l = refl
front_bits zero (suc r) [] h l = absurd (let no : ⊥ = omega arith in no)
front_bits zero r (x ∷ xs) h l =
    let e : 8 * zero + r ≡ r = omega arith in
    ap (λ (k : ℕ). take k (low_bits 8 x ++ bits_of xs)) e ∙ take-append-le r (low_bits 8 x) (bits_of xs) (omega (arith, length_low_bits 8 x))
front_bits (suc q) r [] h l = absurd (let no : ⊥ = omega arith in no)
front_bits (suc q) r (x ∷ xs) h l =
    let e : 8 * suc q + r ≡ suc (suc (suc (suc (suc (suc (suc (suc (8 * q + r)))))))) = omega arith in
    ap (λ (k : ℕ). take k (low_bits 8 x ++ bits_of xs)) e ∙ ap (λ (ys : List Bool). low_bits 8 x ++ ys) (front_bits q r xs h (omega arith))
