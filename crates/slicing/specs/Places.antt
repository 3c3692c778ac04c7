-- Where the elements of the state lie in the sliced form. The state is 128 pairs of an even and an odd element.
-- After r rounds, pair i of the sliced state is pair `place (r % 7) i` of the state as the definition has it.
use Rattle.std.specs.Prelude.{◌≡◌, ℕ, ◌+◌, ◌-◌, ◌*◌, ◌/◌, ◌%◌, ◌^◌, ◌<◌, List, slice_index_or}

-- the 7 bits of i, turned right by s
abbrev pub place : ℕ → ℕ → ℕ
place s i = i % 2 ^ s * 2 ^ (7 - s) + i / 2 ^ s

-- the pairs of xs lie in the sliced form, turned by s, with their first members at `even` and their second ones at `odd`
pub record Lies {A : Type 0} (d : A) (s : ℕ) (xs : List A) (even odd : ℕ → A) : Type 0 where
  pub evens : (i : ℕ) → i < 128 → even i ≡ slice_index_or xs (2 * place s i) d
  pub odds : (i : ℕ) → i < 128 → odd i ≡ slice_index_or xs (2 * place s i + 1) d
