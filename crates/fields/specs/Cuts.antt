-- A text cut at a byte.
use Rattle.std.specs.Prelude.{ℕ, suc, ◌+◌, cond, List, [], ◌∷◌, length, take, drop, Some, None, Option, ◌==◌, nat_lt}

-- how many bytes stand before the first b, or all where there is none
abbrev pub up_to : ℕ → List ℕ → ℕ
up_to b [] = 0
up_to b (x ∷ xs) = cond (x == b) 0 (suc (up_to b xs))

-- a text cut at the first b: what stands before it and what stands after
abbrev pub cut_at : ℕ → List ℕ → Option (List ℕ × List ℕ)
cut_at b xs = cond (nat_lt (up_to b xs) (length xs)) (Some (take (up_to b xs) xs, drop (up_to b xs + 1) xs)) None
