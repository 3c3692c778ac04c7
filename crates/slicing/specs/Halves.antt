-- 128 bits in two halves of 64.
use Rattle.std.specs.Prelude.{ℕ, ◌-◌, ◌*◌, ◌/◌, ◌%◌, ◌^◌, Bool, cond, bit_and, bit_or, nat_lt}
use Rattle.jh.specs.Bit.{bit}

-- bit i of the two halves, the highest bit of the high half first
abbrev pub pair_bit : ℕ → ℕ → ℕ → Bool
pair_bit high low i = cond (nat_lt i 64) (bit high (63 - i)) (bit low (127 - i))

-- a half in which the bits that m has and those n above them change places, by two shifts and a mask
abbrev pub exchanged_half : ℕ → ℕ → ℕ → ℕ
exchanged_half n m x = bit_or (bit_and x m * 2 ^ n % 2 ^ 64) (bit_and (x / 2 ^ n) m)
