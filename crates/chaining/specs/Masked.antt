-- A block in one half of a chain value.
use Rattle.std.specs.Prelude.{ℕ, List}
use Rattle.jh.specs.Compression.{low, high}
use Rattle.chaining.specs.declared.Half.{Half}
use Rattle.chaining.specs.declared.Half.TheVariants.{Low, High}

-- the block m goes into that half of the chain value c
abbrev pub masked : Half → List ℕ → List ℕ → List ℕ
masked Low c m = low c m
masked High c m = high c m
