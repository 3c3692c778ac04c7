-- The message whose digest a closed roll tells.
use Rattle.std.specs.Prelude.{ℕ, List}
use Rattle.std.specs.List.{flat_map}

-- the passages joined in order
abbrev pub in_a_row : List (List ℕ) → List ℕ
in_a_row ms = flat_map (λ m. m) ms
