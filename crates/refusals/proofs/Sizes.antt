-- No digest has more than 64 bytes, and 64 bytes have room for one of any size.
use Rattle.std.proofs.Common.{◌≡◌, ◌/◌, ◌≤◌, refl, arith}
use Rattle.refusals.specs.Refusals.{buffer_refusal}
use Rattle.refusals.specs.Sizes.{bits_in}
use Rattle.refusals.specs.declared.size.DigestSize.{DigestSize}
use Rattle.refusals.specs.declared.size.DigestSize.TheVariants.{D224, D256, D384, D512}

pub digest_short : (s : DigestSize) → bits_in s / 8 ≤ 64
digest_short D224 = omega arith
digest_short D256 = omega arith
digest_short D384 = omega arith
digest_short D512 = omega arith

pub room_enough : (s : DigestSize) → buffer_refusal 64 (bits_in s / 8) ≡ 0
room_enough D224 = refl
room_enough D256 = refl
room_enough D384 = refl
room_enough D512 = refl
