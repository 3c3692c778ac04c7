-- Lengths of strings of bits, and of a padded message.
use Rattle.std.proofs.Common.{◌≡◌, ℕ, zero, suc, ◌+◌, ◌*◌, ◌%◌, Bool, true, false, List, [], ◌∷◌, ◌++◌, length, replicate, refl, ap, arith}
use Rattle.std.proofs.lemmas.List.{length-append, length-replicate}
use Rattle.jh.specs.Bit.{low_bits}
use Rattle.jh.specs.Message.{bits_of, packed, zero_bits, padded}

pub length_low_bits : (k n : ℕ) → length (low_bits k n) ≡ k
length_low_bits zero n = refl
length_low_bits (suc k) n = ap suc (length_low_bits k n)

pub length_bits_of : (xs : List ℕ) → length (bits_of xs) ≡ 8 * length xs
length_bits_of [] = refl
length_bits_of (x ∷ xs) = omega (arith, length-append (low_bits 8 x) (bits_of xs), length_low_bits 8 x, length_bits_of xs)

pub length_packed : (n : ℕ) (bs : List Bool) → length (packed n bs) ≡ n
length_packed zero bs = refl
length_packed (suc n) bs = ap suc (length_packed n _)

pub length_padded : (m : List Bool) → length (padded m) ≡ length m + (1 + (zero_bits (length m) + 128))
unfolding padded
length_padded m =
    let z : List Bool = replicate (zero_bits (length m)) false in
    let b = low_bits 128 (length m) in
    omega (arith, length-append m (true ∷ (z ++ b)), length-append z b, length-replicate {A = Bool} (zero_bits (length m)) false, length_low_bits 128 (length m))

pub whole_blocks : (m : List Bool) → length (padded m) % 512 ≡ 0
whole_blocks m = omega (arith, length_padded m)
