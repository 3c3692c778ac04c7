-- The digest of a message of bytes is that of all its bits.
use Rattle.std.proofs.Common.{◌≡◌, ℕ, ◌*◌, ◌^◌, ◌/◌, ◌≤◌, min, Bool, false, cond, eqb, List, ◌++◌, length, take, drop, Ok, Err, Result, MatchResult, OnOk, sym, ap, ◌∙◌, arith}
use Rattle.std.proofs.lemmas.List.{take_all}
use Rattle.std.proofs.lemmas.Bool.Decides.{nat_tests}
use Rattle.jh.specs.Message.{bits_of}
use Rattle.jh.proofs.Lengths.{length_bits_of}
use Rattle.jh.specs.Jh.{jh}
use Rattle.refusals.specs.Refusals.{number, outcome, digest_refusal}
use Rattle.refusals.specs.declared.refusal.Refusal.{Refusal}
use Rattle.refusals.proofs.Numbers.{positive}
use Rattle.bench_interface.specs.Calls.{refusal, digested}

-- a bound on the count of bits that only a refused message passes
pub same_refusal : (size n b room : ℕ) → b ≡ min n (2 ^ 40) → digest_refusal size n (8 * b) room ≡ digest_refusal size n (8 * n) room
same_refusal size n b room e = grind (arith, nat_tests)

all_bits : (m : List ℕ) (b size room : ℕ) → b ≡ min (length m) (2 ^ 40) → 0 ≡ digest_refusal size (length m) (8 * b) room → take (8 * b) (bits_of m) ≡ bits_of m
all_bits m b size room e z = let le : length m ≤ b = grind (arith, nat_tests) in take_all (8 * b) (bits_of m) (omega (arith, length_bits_of m))

not_zero : (n : ℕ) → 1 ≤ n → eqb n 0 ≡ false
not_zero n h = grind (arith, nat_tests)

-- the buffer after a digest of all the bits, or after its refusal
pub told : (A : Unit {0} → Type 0) (r : Result (Unit {0}) Refusal) (size b : ℕ) (m old new : List ℕ) → b ≡ min (length m) (2 ^ 40)
    → outcome r ≡ digest_refusal size (length m) (8 * b) (length old) → OnOk r (new ≡ jh size (take (8 * b) (bits_of m)) ++ drop (size / 8) old)
    → MatchResult r A (λ _. new ≡ old) → new ≡ digested size m old
told A (Ok u) size b m old new e a j w =
    j ∙ ap (λ (bs : List Bool). jh size bs ++ drop (size / 8) old) (all_bits m b size (length old) e a)
    ∙ ap (λ (n : ℕ). cond (eqb n 0) (jh size (bits_of m) ++ drop (size / 8) old) old) (a ∙ same_refusal size (length m) b (length old) e)
told A (Err x) size b m old new e a j w =
    let r : number x ≡ refusal size m old = a ∙ same_refusal size (length m) b (length old) e in
    w ∙ ap (λ (b : Bool). cond b (jh size (bits_of m) ++ drop (size / 8) old) old) (sym (ap (λ (n : ℕ). eqb n 0) (sym r) ∙ not_zero (number x) (positive x)))
