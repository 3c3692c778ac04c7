-- What is done to both lanes of a word is done to each of its bits.
use Rattle.std.proofs.Common.{◌≡◌, ℕ, ◌-◌, ◌^◌, ◌<◌, ◌≤◌, Bool, true, false, cond, not, T, ltb, List, [], ◌∷◌, map, length, get_or, sym, refl, ap, ◌∙◌, subst, arith, nltb→le}
use lib.Bits.{bit_xor}
use lib.Lanes.{zip2}
use Rattle.std.proofs.lemmas.Simd.{get_or-zip2}
use Rattle.jh.specs.Bit.{bit}
use Rattle.jh.proofs.Below.{below}
use Rattle.slicing.specs.Halves.{pair_bit, exchanged_half}
use Rattle.slicing.proofs.Bits.{bit_not}
use Rattle.slicing.proofs.Exchange.{exchange_test}
use Rattle.slicing.proofs.Halves.{within_test, runs_exchange}

-- an operation on two numbers that works bit by bit
by_bits : (f : ℕ → ℕ → ℕ) (g : Bool → Bool → Bool) → ((a b k : ℕ) → bit (f a b) k ≡ g (bit a k) (bit b k))
    → (h l h' l' i : ℕ) → pair_bit (f h h') (f l l') i ≡ g (pair_bit h l i) (pair_bit h' l' i)
by_bits f g e h l h' l' i = by (ltb i 64)
  where
    by : (b : Bool) → cond b (bit (f h h') (63 - i)) (bit (f l l') (127 - i))
        ≡ g (cond b (bit h (63 - i)) (bit l (127 - i))) (cond b (bit h' (63 - i)) (bit l' (127 - i)))
    by true = e h h' (63 - i)
    by false = e l l' (127 - i)

pub lanes_by_bits : (f : ℕ → ℕ → ℕ) (g : Bool → Bool → Bool) → ((a b k : ℕ) → bit (f a b) k ≡ g (bit a k) (bit b k))
    → (xs ys : List ℕ) → length xs ≡ 2 → length ys ≡ 2 → (i : ℕ)
    → pair_bit (get_or (zip2 f xs ys) 0 0) (get_or (zip2 f xs ys) 1 0) i ≡ g (pair_bit (get_or xs 0 0) (get_or xs 1 0) i) (pair_bit (get_or ys 0 0) (get_or ys 1 0) i)
lanes_by_bits f g e xs ys p q i =
    (λ t. pair_bit (get_or-zip2 f xs ys 0 0 0 0 (omega arith) (omega arith) t) (get_or-zip2 f xs ys 1 0 0 0 (omega arith) (omega arith) t) i)
    ∙ by_bits f g e (get_or xs 0 0) (get_or xs 1 0) (get_or ys 0 0) (get_or ys 1 0) i

inverted : (h l i : ℕ) → h < 2 ^ 64 → l < 2 ^ 64 → pair_bit (2 ^ 64 - 1 - h) (2 ^ 64 - 1 - l) i ≡ not (pair_bit h l i)
inverted h l i p q = by (ltb i 64) refl
  where
    by : (b : Bool) → ltb i 64 ≡ b → cond b (bit (2 ^ 64 - 1 - h) (63 - i)) (bit (2 ^ 64 - 1 - l) (127 - i)) ≡ not (cond b (bit h (63 - i)) (bit l (127 - i)))
    by true e = bit_not h (63 - i) p (omega arith)
    by false e = let ge : 64 ≤ i = nltb→le i 64 (subst (λ (b : Bool). T (not b)) (sym e) tt) in bit_not l (127 - i) q (omega arith)

pub lanes_inverted : (xs : List ℕ) → length xs ≡ 2 → (i : ℕ) → get_or xs 0 0 < 2 ^ 64 → get_or xs 1 0 < 2 ^ 64
    → pair_bit (get_or (map (λ x. 2 ^ 64 - 1 - x) xs) 0 0) (get_or (map (λ x. 2 ^ 64 - 1 - x) xs) 1 0) i ≡ not (pair_bit (get_or xs 0 0) (get_or xs 1 0) i)
lanes_inverted [] e i p q = absurd (let no : ⊥ = omega arith in no)
lanes_inverted (h ∷ []) e i p q = absurd (let no : ⊥ = omega arith in no)
lanes_inverted (h ∷ (l ∷ xs)) e i p q = inverted h l i p q

-- runs of n bits change places in both lanes
pub lanes_exchanged : (n m h l : ℕ) (r : List ℕ) → r ≡ exchanged_half n m h ∷ exchanged_half n m l ∷ []
    → T (below 64 (exchange_test n m)) → T (below 128 (within_test n)) → (i : ℕ) → i < 128
    → pair_bit (get_or r 0 0) (get_or r 1 0) i ≡ pair_bit h l (bit_xor i n)
lanes_exchanged n m h l r e t u i g = ap (λ (r : List ℕ). pair_bit (get_or r 0 0) (get_or r 1 0) i) e ∙ runs_exchange n m t u h l i g
