-- The digest size of a roll is one of the four.
use Rattle.std.proofs.Common.{◌≡◌, ℕ, Bool, true, false, ◌||◌, ◌==◌, refl, sym}
use Rattle.std.proofs.lemmas.Bool.{eqb-true}
use Rattle.refusals.specs.Sizes.{bits_in, is_size}
use Rattle.refusals.specs.declared.size.DigestSize.{DigestSize}
use Rattle.refusals.specs.declared.size.DigestSize.TheVariants.{D224, D256, D384, D512}

named : (n : ℕ) (a b c d : Bool) → (n == 224) ≡ a → (n == 256) ≡ b → (n == 384) ≡ c → (n == 512) ≡ d → (a || (b || (c || d))) ≡ true
    → (s : DigestSize) × (bits_in s ≡ n)
named n true b c d e f g h k = (D224, sym (eqb-true n 224 e))
named n false true c d e f g h k = (D256, sym (eqb-true n 256 f))
named n false false true d e f g h k = (D384, sym (eqb-true n 384 g))
named n false false false true e f g h k = (D512, sym (eqb-true n 512 h))
named n false false false false e f g h k = absurd (cc)

-- a number that is a size is that of one
pub size_named : (n : ℕ) → is_size n ≡ true → (s : DigestSize) × (bits_in s ≡ n)
size_named n h = named n (n == 224) (n == 256) (n == 384) (n == 512) refl refl refl refl h
