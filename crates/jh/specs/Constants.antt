-- The round constants: C 0 is the fraction of the square root of 2, each other one a round of dimension 6 of the one before.
use Rattle.std.specs.Prelude.{ℕ, zero, suc, ◌+◌, ◌*◌, ◌/◌, ◌%◌, ◌^◌, Bool, false, List, [], ◌∷◌, replicate}
use Rattle.jh.specs.Round.{round}

abbrev pub C0 : ℕ
C0 = 0x6a09e667f3bcc908b2fb1366ea957d3e3adec17512775099da2f590b0667322a

-- the k lowest elements of n, the highest first
abbrev pub nibbles : ℕ → ℕ → List ℕ
nibbles zero n = []
nibbles (suc k) n = (n / 16 ^ k % 16) ∷ nibbles k n

abbrev pub zeros : List Bool
zeros = replicate 64 false

abbrev pub constant : ℕ → List ℕ
constant zero = nibbles 64 C0
constant (suc r) = round zeros (constant r)

-- elements as one number
abbrev pub number : ℕ → List ℕ → ℕ
number acc [] = acc
number acc (a ∷ xs) = number (acc * 16 + a) xs
