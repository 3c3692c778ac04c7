-- What a function on pairs makes of a row, pair by pair.
use Rattle.std.specs.Prelude.{◌≡◌, ℕ, ◌+◌, ◌*◌, ◌%◌, ◌<◌, List, length, slice_index}

-- what is made of two elements is two elements
abbrev pub MakesPairs : (ℕ × ℕ → ℕ × ℕ → Type 0) → Type 0
MakesPairs makes = (a b : ℕ) (r : ℕ × ℕ) → a < 16 → b < 16 → makes (a, b) r → (r.0 < 16) × (r.1 < 16)

-- xs is a row of pairs, ys one as long, and the elements 2i and 2i + 1 of ys are what is made of those of xs
pub record EachPair (makes : ℕ × ℕ → ℕ × ℕ → Type 0) (xs ys : List ℕ) : Type 0 where
  pub even : length xs % 2 ≡ 0
  pub long : length ys ≡ length xs
  pub each : (i : ℕ) → 2 * i + 1 < length xs → makes (slice_index xs (2 * i), slice_index xs (2 * i + 1)) (slice_index ys (2 * i), slice_index ys (2 * i + 1))
