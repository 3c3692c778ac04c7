-- Byte strings.
use Rattle.std.specs.Prelude.{◌≡◌, ℕ, zero, suc, ◌/◌, ◌%◌, ◌^◌, ◌<◌, List, [], ◌∷◌, length, bit_xor, slice_index}

-- xs is a string of n bytes
pub record Bytes (n : ℕ) (xs : List ℕ) : Type 0 where
  pub len : length xs ≡ n
  pub small : (k : ℕ) → k < n → slice_index xs k < 256

-- byte by byte, the exclusive or of a string and a mask; where the mask is shorter, the rest stays
abbrev pub xored : List ℕ → List ℕ → List ℕ
xored [] ms = []
xored (x ∷ xs) [] = x ∷ xs
xored (x ∷ xs) (m ∷ ms) = bit_xor x m ∷ xored xs ms

-- n in k bytes, the high byte first
abbrev pub big_endian : ℕ → ℕ → List ℕ
big_endian zero n = []
big_endian (suc k) n = n / 256 ^ k % 256 ∷ big_endian k n
