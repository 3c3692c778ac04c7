-- S-boxes given as tables.
use Rattle.std.specs.Prelude.{ℕ, Bool, cond, List, slice_index}

-- what the table that a constant bit chooses makes of a: s0 where the bit is 0, s1 where it is 1
abbrev pub chosen : List ℕ → List ℕ → Bool → ℕ → ℕ
chosen s0 s1 c a = slice_index (cond c s1 s0) a
