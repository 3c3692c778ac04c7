-- The first lines of a text.
use Rattle.std.specs.Prelude.{ℕ, zero, suc, cond, List, [], ◌∷◌, ◌==◌}

-- the first n lines of a text, each with its line feed; the whole text where it has fewer
abbrev pub first_lines : ℕ → List ℕ → List ℕ
first_lines zero t = []
first_lines (suc n) [] = []
first_lines (suc n) (b ∷ t) = b ∷ cond (b == 10) (first_lines n t) (first_lines (suc n) t)
