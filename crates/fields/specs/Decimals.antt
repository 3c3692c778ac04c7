-- Decimal fields.
use Rattle.std.specs.Prelude.{ℕ, ◌+◌, ◌-◌, ◌*◌, Bool, cond, not, ◌&&◌, ◌||◌, List, [], ◌∷◌, length, Some, None, Option, ◌==◌, nat_le, slice_index}
use Rattle.std.specs.Str.{all_ascii_digits}

-- 1 to 16 digits, and no leading zero but in 0
abbrev pub is_decimal : List ℕ → Bool
is_decimal ds = ((nat_le 1 (length ds) && nat_le (length ds) 16) && (not (slice_index ds 0 == 48) || length ds == 1)) && all_ascii_digits ds

-- the number that n and then digits write
abbrev pub read_on : ℕ → List ℕ → ℕ
read_on n [] = n
read_on n (c ∷ cs) = read_on (10 * n + (c - 48)) cs

-- the number of a decimal field
abbrev pub number_of : List ℕ → Option ℕ
number_of ds = cond (is_decimal ds) (Some (read_on 0 ds)) None
