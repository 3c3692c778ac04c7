-- L by doublings: tests that antt computes, over the 16 elements and the 256 pairs.
use Rattle.std.proofs.Common.{◌≡◌, ℕ, ◌<◌, eqb, ap, ◌∙◌, eqb→eq}
use lib.Bits.{bit_xor}
use Rattle.jh.specs.Field.{twice, times}
use Rattle.jh.specs.Round.{first, second}
use Rattle.jh.proofs.Below.{below_at}
use Rattle.jh.proofs.Tables.{pairs}

pub times_two : (a : ℕ) → a < 16 → times 2 a ≡ twice a
times_two a h = eqb→eq (times 2 a) (twice a) (below_at 16 (λ x. eqb (times 2 x) (twice x)) tt a h)

-- C = A + 2•D
pub first_by_second : (a b : ℕ) → a < 16 → b < 16 → bit_xor a (times 2 (second a b)) ≡ first a b
first_by_second a b h k = eqb→eq (bit_xor a (times 2 (second a b))) (first a b) (pairs (λ x y. eqb (bit_xor x (times 2 (second x y))) (first x y)) tt a b h k)

-- L of (a, b), from 2•A and 2•D
pub mixed_pair : (a b p q : ℕ) → a < 16 → b < 16 → p ≡ times 2 a → q ≡ times 2 (bit_xor p b) → ◌≡◌ {A = ℕ × ℕ} (bit_xor a q, bit_xor p b) (first a b, second a b)
mixed_pair a b p q h k e f =
    let d = ap (λ (x : ℕ). bit_xor x b) e in
    let c = ap (bit_xor a) (f ∙ ap (times 2) d) ∙ first_by_second a b h k in
    λ i. (c i, d i)
