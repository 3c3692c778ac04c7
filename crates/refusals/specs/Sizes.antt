-- The digest sizes.
use Rattle.std.specs.Prelude.{ℕ, Bool, ◌||◌, ◌==◌}
use Rattle.refusals.specs.declared.size.DigestSize.{DigestSize}
use Rattle.refusals.specs.declared.size.DigestSize.TheVariants.{D224, D256, D384, D512}

-- the bits of a digest of that size
abbrev pub bits_in : DigestSize → ℕ
bits_in D224 = 224
bits_in D256 = 256
bits_in D384 = 384
bits_in D512 = 512

-- n is one of the four sizes
abbrev pub is_size : ℕ → Bool
is_size n = n == 224 || (n == 256 || (n == 384 || n == 512))
