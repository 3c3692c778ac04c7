-- Places of pairs, turn by turn: tests that antt computes at each of 7 turns and 128 pairs.
use Rattle.std.proofs.Common.{◌≡◌, ℕ, suc, ◌%◌, ◌^◌, ◌<◌, Bool, T, eqb, ltb, eqb→eq, ltb→lt}
use lib.Bits.{bit_xor}
use Rattle.jh.proofs.Below.{below, below_at}
use Rattle.jh.proofs.Places.{left, right}
use Rattle.slicing.specs.Places.{place}

at_each : (f : ℕ → ℕ → Bool) → T (below 7 (λ s. below 128 (f s))) → (s : ℕ) → s < 7 → (i : ℕ) → i < 128 → T (f s i)
at_each f t s hs = below_at 128 (f s) (below_at 7 (λ s. below 128 (f s)) t s hs)

pub equal_each : (f g : ℕ → ℕ → ℕ) → T (below 7 (λ s. below 128 (λ i. eqb (f s i) (g s i)))) → (s : ℕ) → s < 7 → (i : ℕ) → i < 128 → f s i ≡ g s i
equal_each f g t s hs i hi = eqb→eq (f s i) (g s i) (at_each (λ s i. eqb (f s i) (g s i)) t s hs i hi)

module _ (s : ℕ) (hs : s < 7) (i : ℕ) (hi : i < 128) where
  -- where a round takes the pair from whose place is turned by one more
  pub left_place : left 64 (place (suc s % 7) i) ≡ place s i
  left_place = equal_each (λ s i. left 64 (place (suc s % 7) i)) place tt s hs i hi

  pub right_place : right 64 (place (suc s % 7) i) ≡ place s (bit_xor i (2 ^ s))
  right_place = equal_each (λ s i. right 64 (place (suc s % 7) i)) (λ s i. place s (bit_xor i (2 ^ s))) tt s hs i hi

  pub place_below : place (suc s % 7) i < 128
  place_below = ltb→lt (place (suc s % 7) i) 128 (at_each (λ s i. ltb (place (suc s % 7) i) 128) tt s hs i hi)

  pub swap_below : bit_xor i (2 ^ s) < 128
  swap_below = ltb→lt (bit_xor i (2 ^ s)) 128 (at_each (λ s i. ltb (bit_xor i (2 ^ s)) 128) tt s hs i hi)

  -- a turn by one more is a turn by 1 and then a turn by s
  pub turned : place s (place 1 i) ≡ place (suc s % 7) i
  turned = equal_each (λ s i. place s (place 1 i)) (λ s i. place (suc s % 7) i) tt s hs i hi

  -- bit s + 1 of a number is bit s of the number turned right by 1
  pub crossed : place 1 (bit_xor i (2 ^ (suc s % 7))) ≡ bit_xor (place 1 i) (2 ^ s)
  crossed = equal_each (λ s i. place 1 (bit_xor i (2 ^ (suc s % 7)))) (λ s i. bit_xor (place 1 i) (2 ^ s)) tt s hs i hi
