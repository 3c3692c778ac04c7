-- The round constants of the sliced form, by the rule that makes them from those of the definition.
use Rattle.std.specs.Prelude.{ℕ, zero, suc, ◌*◌, ◌/◌, ◌%◌, ◌^◌, Bool, List, [], ◌++◌, take, drop}
use Rattle.jh.specs.Round.{evens, odds}
use Rattle.jh.specs.Constants.{constant}
use Rattle.jh.specs.Permutation.{bits}
use Rattle.jh.specs.Inverse.{unpermute}

-- moved by the inverse of P_8, r times over
abbrev pub moved : {A : Type 0} → ℕ → List A → List A
moved zero xs = xs
moved (suc r) xs = unpermute (moved r xs)

-- each of k pairs of neighbouring runs of n bits changes places
abbrev pub runs_exchanged : {A : Type 0} → ℕ → ℕ → List A → List A
runs_exchanged zero n xs = []
runs_exchanged (suc k) n xs = take n (drop n xs) ++ (take n xs ++ runs_exchanged k n (drop (2 * n) xs))

-- for i from 0 to r - 1, neighbouring runs of 2^(i mod 7) of the 128 bits change places
abbrev pub exchanged : {A : Type 0} → ℕ → List A → List A
exchanged zero xs = xs
exchanged (suc i) xs = let n : ℕ = 2 ^ (i % 7) in runs_exchanged (64 / n) n (exchanged i xs)

-- the word of the even-numbered bits, and that of the odd-numbered ones, of a constant's 256 bits in round r
abbrev pub even_part : ℕ → List Bool → List Bool
even_part r cs = evens (moved r cs)

abbrev pub odd_part : ℕ → List Bool → List Bool
odd_part r cs = exchanged r (odds (moved r cs))

-- the two words of the constant C_r
unfoldable pub even_word : ℕ → List Bool
even_word r = even_part r (bits (constant r))

unfoldable pub odd_word : ℕ → List Bool
odd_word r = odd_part r (bits (constant r))
