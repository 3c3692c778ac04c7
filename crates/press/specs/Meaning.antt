-- What a press means on the way forth: three functions.
use Rattle.std.specs.Prelude.{ℕ, List}

pub record Meaning : Type 0 where
  -- the opening value of a digest size in bits
  pub opens : ℕ → List ℕ
  -- the chain value after a block
  pub steps : List ℕ → List ℕ → List ℕ
  -- the last block of a row of that many blocks
  pub ends : ℕ → List ℕ
