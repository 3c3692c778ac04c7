-- Bits of a number, counted from the lowest, and elements of four bits.
use Rattle.std.specs.Prelude.{ℕ, zero, suc, ◌+◌, ◌/◌, ◌%◌, ◌^◌, Bool, true, false, cond, not, List, [], ◌∷◌, ◌==◌}

abbrev pub odd : ℕ → Bool
odd n = n % 2 == 1

abbrev pub bit : ℕ → ℕ → Bool
bit n k = odd (n / 2 ^ k)

abbrev pub differ : Bool → Bool → Bool
differ true b = not b
differ false b = b

-- an element by its bits, the highest first
abbrev pub element : Bool → Bool → Bool → Bool → ℕ
element a b c d = cond a 8 0 + (cond b 4 0 + (cond c 2 0 + cond d 1 0))

-- the k low bits of n, the highest first
abbrev pub low_bits : ℕ → ℕ → List Bool
low_bits zero n = []
low_bits (suc k) n = bit n k ∷ low_bits k n
