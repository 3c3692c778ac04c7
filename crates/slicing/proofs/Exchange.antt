-- Neighbouring runs of n bits change places by two shifts and a mask.
use Rattle.std.proofs.Common.{◌≡◌, ℕ, ◌+◌, ◌-◌, ◌*◌, ◌/◌, ◌%◌, ◌^◌, ◌<◌, ◌≤◌, Bool, true, false, cond, not, ◌&&◌, ◌||◌, T, eqb, ltb, sym, refl, ap, ◌∙◌, subst, ap₂, arith, eqb→eq, ltb→lt, nltb→le}
use mathlib.Core.Bool.{and-true, and-false, or-false}
use lib.Bits.{bit_and, bit_xor}
use Rattle.jh.specs.Bit.{bit}
use Rattle.slicing.specs.Halves.{exchanged_half}
use Rattle.jh.proofs.Below.{below, below_at}
use Rattle.slicing.proofs.Bits.{bit_of_and, bit_of_or, bit_of_shr, bit_of_mod, bit_of_shl_high, bit_of_shl_low}

shl_by : (y n k : ℕ) (b : Bool) → ltb k n ≡ b → bit (y * 2 ^ n) k ≡ cond b false (bit y (k - n))
shl_by y n k true e = bit_of_shl_low y n k (ltb→lt k n (subst T (sym e) tt))
shl_by y n k false e =
    let h : n ≤ k = nltb→le k n (subst (λ (b : Bool). T (not b)) (sym e) tt) in
    let s : k ≡ n + (k - n) = omega arith in
    ap (λ (j : ℕ). bit (y * 2 ^ n) j) s ∙ bit_of_shl_high y n (k - n)

bit_of_shl : (y n k : ℕ) → bit (y * 2 ^ n) k ≡ cond (ltb k n) false (bit y (k - n))
bit_of_shl y n k = shl_by y n k (ltb k n) refl

-- where bit k comes from: from n above where the mask has it, else from n below
abbrev source : Bool → Bool → Bool → Bool → Bool → Bool
source true true mj up down = up
source true false mj up down = false
source false true true up down = false
source false true false up down = up
source false false true up down = down
source false false false up down = false

comes : (low mk mj : Bool) (f : ℕ → Bool) (u v w : ℕ) → T (source low mk mj (eqb u w) (eqb v w))
    → (cond low false (f v && mj) || (f u && mk)) ≡ f w
comes true true mj f u v w t = and-true (f u) ∙ ap f (eqb→eq u w t)
comes true false mj f u v w t = absurd t
comes false true true f u v w t = absurd t
comes false true false f u v w t = ap (λ (b : Bool). b || (f u && true)) (and-false (f v)) ∙ and-true (f u) ∙ ap f (eqb→eq u w t)
comes false false true f u v w t = ap₂ ◌||◌ (and-true (f v)) (and-false (f u)) ∙ or-false (f v) ∙ ap f (eqb→eq v w t)
comes false false false f u v w t = absurd t

abbrev pub exchange_test : ℕ → ℕ → ℕ → Bool
exchange_test n m k = source (ltb k n) (bit m k) (bit m (k - n)) (eqb (n + k) (bit_xor k n)) (eqb (k - n) (bit_xor k n))

pub exchange_bit : (x n m : ℕ) → T (below 64 (exchange_test n m)) → (k : ℕ) → k < 64
    → bit (exchanged_half n m x) k ≡ bit x (bit_xor k n)
exchange_bit x n m t k h =
    bit_of_or ((bit_and x m * 2 ^ n) % 2 ^ 64) (bit_and (x / 2 ^ n) m) k
    ∙ ap₂ ◌||◌
    (bit_of_mod (bit_and x m * 2 ^ n) 64 k h ∙ bit_of_shl (bit_and x m) n k ∙ ap (cond (ltb k n) false) (bit_of_and x m (k - n)))
    (bit_of_and (x / 2 ^ n) m k ∙ ap (λ (b : Bool). b && bit m k) (bit_of_shr x n k))
    ∙ comes (ltb k n) (bit m k) (bit m (k - n)) (bit x) (n + k) (k - n) (bit_xor k n) (below_at 64 (exchange_test n m) t k h)
