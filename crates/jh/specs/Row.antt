-- Rows of elements of four bits.
use Rattle.std.specs.Prelude.{◌≡◌, ℕ, ◌<◌, List, length}
use Rattle.std.specs.List.{AllByRecursion}

-- xs is a row of n elements
pub record Row (n : ℕ) (xs : List ℕ) : Type 0 where
  pub long : length xs ≡ n
  pub small : AllByRecursion (λ a. a < 16) xs
