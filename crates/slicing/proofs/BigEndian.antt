-- The bits of a number in big_endian bytes are those of the number.
use Rattle.std.proofs.Common.{◌≡◌, ℕ, zero, suc, ◌+◌, ◌-◌, ◌*◌, ◌/◌, ◌%◌, ◌^◌, ◌<◌, ◌≤◌, Bool, true, false, not, T, ltb, List, get_or, sym, refl, ap, ◌∙◌, subst, ap₂, pow-suc, arith, ltb→lt, nltb→le, pow-add}
use Rattle.byte_strings.specs.Bytes.{big_endian}
use Rattle.jh.specs.Bit.{bit}
use Rattle.jh.specs.Permutation.{byte_bit}
use Rattle.slicing.proofs.Bits.{bit_of_mod, bit_of_shr}

bytes_pow : (k : ℕ) → 256 ^ k ≡ 2 ^ (8 * k)
bytes_pow zero = refl
bytes_pow (suc k) =
    let e : 8 * k + 8 ≡ 8 * suc k = omega arith in
    pow-suc 256 k ∙ ap (λ (m : ℕ). m * 256) (bytes_pow k) ∙ sym (pow-add 2 (8 * k) 8) ∙ ap (λ (m : ℕ). 2 ^ m) e

pub big_endian_bit : (k n j : ℕ) → j < 8 * k → byte_bit (big_endian k n) j ≡ bit n (8 * k - 1 - j)
big_endian_bit zero n j h = absurd (let no : ⊥ = omega arith in no)
big_endian_bit (suc k) n j h = by (ltb j 8) refl (λ i g. big_endian_bit k n i g)
  where
    by : (b : Bool) → ltb j 8 ≡ b → ((i : ℕ) → i < 8 * k → byte_bit (big_endian k n) i ≡ bit n (8 * k - 1 - i))
        → byte_bit (big_endian (suc k) n) j ≡ bit n (8 * suc k - 1 - j)
    by true e rest =
        let lt : j < 8 = ltb→lt j 8 (subst T (sym e) tt) in
        let q : j / 8 ≡ 0 = omega arith in
        let r : j % 8 ≡ j = omega arith in
        let i : 8 * k + (7 - j) ≡ 8 * suc k - 1 - j = omega arith in
        ap₂ (λ (x y : ℕ). bit (get_or (big_endian (suc k) n) x 0) (7 - y)) q r
        ∙ bit_of_mod (n / 256 ^ k) 8 (7 - j) (omega arith)
        ∙ ap (λ (m : ℕ). bit (n / m) (7 - j)) (bytes_pow k)
        ∙ bit_of_shr n (8 * k) (7 - j) ∙ ap (bit n) i
    by false e rest =
        let ge : 8 ≤ j = nltb→le j 8 (subst (λ (b : Bool). T (not b)) (sym e) tt) in
        let i : ℕ = j - 8 in
        let q : j / 8 ≡ suc (i / 8) = omega arith in
        let r : j % 8 ≡ i % 8 = omega arith in
        let m : 8 * k - 1 - i ≡ 8 * suc k - 1 - j = omega arith in
        ap₂ (λ (x y : ℕ). bit (get_or (big_endian (suc k) n) x 0) (7 - y)) q r ∙ rest i (omega arith) ∙ ap (bit n) m

-- the bits of the number that the eight bytes of a string from place a on spell
pub eight_bit : (x ys : List ℕ) (a n : ℕ) → big_endian 8 n ≡ ys → ((k : ℕ) → k < 8 → get_or ys k 0 ≡ get_or x (a + k) 0)
    → (j : ℕ) → j < 64 → bit n (63 - j) ≡ byte_bit x (8 * a + j)
eight_bit x ys a n e at j h =
    let q : a + j / 8 ≡ (8 * a + j) / 8 = omega arith in
    let r : j % 8 ≡ (8 * a + j) % 8 = omega arith in
    sym (big_endian_bit 8 n j h) ∙ ap (λ (ys : List ℕ). byte_bit ys j) e
    ∙ ap (λ (b : ℕ). bit b (7 - j % 8)) (at (j / 8) (omega arith))
    ∙ ap₂ (λ (u v : ℕ). bit (get_or x u 0) (7 - v)) q r
