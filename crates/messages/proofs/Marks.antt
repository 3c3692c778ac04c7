-- The last byte of a message, by masks.
use Rattle.std.proofs.Common.{◌≡◌, ℕ, ◌-◌, ◌/◌, ◌^◌, ◌<◌, Bool, eqb, bit_and, bit_or, eqb→eq}
use Rattle.jh.specs.Ending.{marked}
use Rattle.jh.proofs.Below.{below, below_at}

-- the bits that count, and the one bit behind them
abbrev pub masked : ℕ → ℕ → ℕ
masked r x = bit_or (bit_and x (255 - 255 / 2 ^ r)) (128 / 2 ^ r)

abbrev masked_test : ℕ → ℕ → Bool
masked_test r x = eqb (masked r x) (marked r x)

-- at each of the 8 counts of bits and the 256 bytes
pub masked_marked : (r x : ℕ) → r < 8 → x < 256 → masked r x ≡ marked r x
masked_marked r x h l = eqb→eq (masked r x) (marked r x) (below_at 256 (masked_test r) (below_at 8 (λ s. below 256 (masked_test s)) tt r h) x l)
