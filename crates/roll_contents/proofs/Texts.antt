-- The saved text of a roll.
use Rattle.std.proofs.Common.{◌≡◌, ℕ, ◌≤◌, true, cond, List, length, Ok, Err, Result, sym, refl, ap, ◌∙◌, arith}
use Rattle.std.proofs.lemmas.Bool.{lt-ltb, le-ltb}
use Rattle.std.proofs.lemmas.Fmt.{length-decimal-le}
use Rattle.std.proofs.lemmas.Bool.Decides.{nat_tests}
use Rattle.refusals.specs.Refusals.{number, outcome, buffer_refusal}
use Rattle.refusals.specs.Sizes.{is_size, bits_in}
use Rattle.refusals.specs.declared.refusal.Refusal.{Refusal}
use Rattle.refusals.specs.declared.size.DigestSize.{DigestSize}
use Rattle.refusals.specs.declared.size.DigestSize.TheVariants.{D224, D256, D384, D512}
use Rattle.daybook.specs.Contents.{text_length}
use Rattle.text_laws.specs.Saved.{Saved}
use Rattle.text_laws.specs.Valid.{Valid}
use Rattle.saved_text.specs.Snapshots.{Saves}

pub sized : (s : DigestSize) → is_size (bits_in s) ≡ true
sized D224 = refl
sized D256 = refl
sized D384 = refl
sized D512 = refl

size_small : (n : ℕ) → is_size n ≡ true → n ≤ 512
size_small n h = grind (arith, nat_tests)

-- the longest text has its five numbers of at most 16 digits and 32 passages
pub short_text : (s : Saved) → Valid s → text_length s.size s.shipped s.last s.cents (length s.window) ≤ 4661
short_text s v =
    let z = v.size in
    let few = v.few in
    let most = v.most in
    let high = v.high in
    let paid = v.paid in
    let size : s.size ≤ 512 = size_small s.size z in
    omega (
      arith,
      length-decimal-le 16 s.size (omega arith) (omega arith) (omega arith),
      length-decimal-le 16 s.shipped (omega arith) (omega arith) (omega arith),
      length-decimal-le 16 s.last (omega arith) (omega arith) (omega arith),
      length-decimal-le 16 s.cents (omega arith) (omega arith) (omega arith),
      length-decimal-le 16 (length s.window) (omega arith) (omega arith) (omega arith),
    )

-- the number that a save answers
pub saved_answer : (r : Result ℕ Refusal) (old new t : List ℕ) (n : ℕ) → Saves old new t r → length t ≡ n → outcome r ≡ buffer_refusal (length old) n
saved_answer (Ok x) old new t n s l = sym (ap (λ b. cond b 4 0) (le-ltb (length old) n (omega (arith, s.0, l))))
saved_answer (Err e) old new t n s l = ap number s.1 ∙ sym (ap (λ b. cond b 4 0) (lt-ltb (length old) n (omega (arith, s.0, l))))
