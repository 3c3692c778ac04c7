-- Neighbouring runs of n bits of a word change places: within each half, or the halves themselves.
use Rattle.std.proofs.Common.{◌≡◌, ℕ, ◌+◌, ◌-◌, ◌<◌, ◌≤◌, Bool, true, false, cond, not, ◌&&◌, T, eqb, ltb, sym, refl, ap, ◌∙◌, subst, arith, eqb→eq, ltb→lt, nltb→le}
use lib.Bits.{bit_xor}
use Rattle.jh.specs.Bit.{bit}
use Rattle.jh.proofs.Below.{below, below_at, both_left, both_right}
use Rattle.slicing.specs.Halves.{pair_bit, exchanged_half}
use Rattle.slicing.proofs.Exchange.{exchange_test, exchange_bit}

-- ---- within each half

abbrev within : Bool → Bool → ℕ → ℕ → ℕ → ℕ → ℕ → Bool
within true true n u v uj vj = eqb (bit_xor u n) uj && ltb u 64
within true false n u v uj vj = false
within false true n u v uj vj = false
within false false n u v uj vj = eqb (bit_xor v n) vj && ltb v 64

abbrev pub within_test : ℕ → ℕ → Bool
within_test n i = let j : ℕ = bit_xor i n in within (ltb i 64) (ltb j 64) n (63 - i) (127 - i) (63 - j) (127 - j)

within_by : (b bj : Bool) (n u v uj vj : ℕ) → T (within b bj n u v uj vj) → (h l h' l' : ℕ)
    → ((k : ℕ) → k < 64 → bit h k ≡ bit h' (bit_xor k n)) → ((k : ℕ) → k < 64 → bit l k ≡ bit l' (bit_xor k n))
    → cond b (bit h u) (bit l v) ≡ cond bj (bit h' uj) (bit l' vj)
within_by true true n u v uj vj t h l h' l' p q =
    p u (ltb→lt u 64 (both_right (eqb (bit_xor u n) uj) (ltb u 64) t))
    ∙ ap (bit h') (eqb→eq (bit_xor u n) uj (both_left (eqb (bit_xor u n) uj) (ltb u 64) t))
within_by true false n u v uj vj t h l h' l' p q = absurd t
within_by false true n u v uj vj t h l h' l' p q = absurd t
within_by false false n u v uj vj t h l h' l' p q =
    q v (ltb→lt v 64 (both_right (eqb (bit_xor v n) vj) (ltb v 64) t))
    ∙ ap (bit l') (eqb→eq (bit_xor v n) vj (both_left (eqb (bit_xor v n) vj) (ltb v 64) t))

swap_within : (n : ℕ) → T (below 128 (within_test n)) → (h l h' l' : ℕ)
    → ((k : ℕ) → k < 64 → bit h k ≡ bit h' (bit_xor k n)) → ((k : ℕ) → k < 64 → bit l k ≡ bit l' (bit_xor k n))
    → (i : ℕ) → i < 128 → pair_bit h l i ≡ pair_bit h' l' (bit_xor i n)
swap_within n t h l h' l' p q i hi =
    let j : ℕ = bit_xor i n in
    within_by (ltb i 64) (ltb j 64) n (63 - i) (127 - i) (63 - j) (127 - j) (below_at 128 (within_test n) t i hi) h l h' l' p q

-- by shifts and a mask
pub runs_exchange : (n m : ℕ) → T (below 64 (exchange_test n m)) → T (below 128 (within_test n)) → (h l i : ℕ) → i < 128
    → pair_bit (exchanged_half n m h) (exchanged_half n m l) i ≡ pair_bit h l (bit_xor i n)
runs_exchange n m t u h l i g =
    swap_within n u (exchanged_half n m h) (exchanged_half n m l) h l (exchange_bit h n m t) (exchange_bit l n m t) i g

-- ---- the halves

abbrev across : Bool → Bool → ℕ → ℕ → ℕ → ℕ → Bool
across true true u v uj vj = false
across true false u v uj vj = eqb u vj
across false true u v uj vj = eqb v uj
across false false u v uj vj = false

abbrev across_test : ℕ → Bool
across_test i = let j : ℕ = bit_xor i 64 in across (ltb i 64) (ltb j 64) (63 - i) (127 - i) (63 - j) (127 - j)

across_by : (b bj : Bool) (u v uj vj : ℕ) → T (across b bj u v uj vj) → (h l : ℕ) → cond b (bit l u) (bit h v) ≡ cond bj (bit h uj) (bit l vj)
across_by true true u v uj vj t h l = absurd t
across_by true false u v uj vj t h l = ap (bit l) (eqb→eq u vj t)
across_by false true u v uj vj t h l = ap (bit h) (eqb→eq v uj t)
across_by false false u v uj vj t h l = absurd t

pub swap_across : (h l i : ℕ) → i < 128 → pair_bit l h i ≡ pair_bit h l (bit_xor i 64)
swap_across h l i hi =
    let j : ℕ = bit_xor i 64 in
    across_by (ltb i 64) (ltb j 64) (63 - i) (127 - i) (63 - j) (127 - j) (below_at 128 across_test tt i hi) h l

-- ---- 128 bits from two halves

pub halves_are : (f : ℕ → Bool) (h l : ℕ) → ((j : ℕ) → j < 64 → bit h (63 - j) ≡ f j) → ((j : ℕ) → j < 64 → bit l (63 - j) ≡ f (64 + j))
    → (i : ℕ) → i < 128 → pair_bit h l i ≡ f i
halves_are f h l p q i g = by (ltb i 64) refl
  where
    by : (b : Bool) → ltb i 64 ≡ b → cond b (bit h (63 - i)) (bit l (127 - i)) ≡ f i
    by true e = p i (ltb→lt i 64 (subst T (sym e) tt))
    by false e =
        let ge : 64 ≤ i = nltb→le i 64 (subst (λ (b : Bool). T (not b)) (sym e) tt) in
        let m : 127 - i ≡ 63 - (i - 64) = omega arith in
        let n : 64 + (i - 64) ≡ i = omega arith in
        ap (bit l) m ∙ q (i - 64) (omega arith) ∙ ap f n
