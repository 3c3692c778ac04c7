-- The field of 16 elements: binary polynomials modulo x^4 + x + 1. An element is a number below 16, its bits the coefficients.
use Rattle.std.specs.Prelude.{ℕ, ◌*◌, ◌/◌, ◌%◌, cond, bit_xor}
use Rattle.jh.specs.Bit.{bit}

-- x times the polynomial a
abbrev pub twice : ℕ → ℕ
twice a = bit_xor (a * 2 % 16) (a / 8 * 3)

-- the product of n and a: for each coefficient of n, a times that power of x
abbrev pub times : ℕ → ℕ → ℕ
times n a =
    bit_xor (cond (bit n 0) a 0)
    (bit_xor (cond (bit n 1) (twice a) 0) (bit_xor (cond (bit n 2) (twice (twice a)) 0) (cond (bit n 3) (twice (twice (twice a))) 0)))
