-- A feeder that is fed more of a message.
use Rattle.std.proofs.Common.{◌≡◌, ℕ, ◌+◌, ◌^◌, ◌<◌, ◌≤◌, Bool, true, false, cond, ltb, List, ◌++◌, length, is_err, Ok, Err, Result, refl, ap, ◌∙◌, arith, MatchResult}
use Rattle.std.proofs.lemmas.List.{length-append}
use Rattle.std.proofs.lemmas.Bool.{both_ways, ltb-true, ltb-false}
use Rattle.refusals.specs.declared.refusal.Refusal.{Refusal}
use Rattle.refusals.specs.declared.size.DigestSize.{DigestSize}
use Rattle.refusals.specs.Refusals.{number, outcome, feed_refusal}
use Rattle.refusals.proofs.Numbers.{positive}
use Rattle.jh_digest.specs.Stands.{Feeds}
use Rattle.jh_digest.specs.declared.feeder.JhFeeder.{JhFeeder}
use Rattle.summary.specs.Fed.{Holds}

within : (n : ℕ) (b : Bool) → ltb (2 ^ 40) n ≡ b → 0 ≡ cond {A = ℕ} b 2 0 → n ≤ 2 ^ 40
within n true e z = absurd (let no : ⊥ = omega arith in no)
within n false e z = omega (arith, ltb-false (2 ^ 40) n e)

past : (n : ℕ) (b : Bool) (d : Refusal) → ltb (2 ^ 40) n ≡ b → number d ≡ cond b 2 0 → 2 ^ 40 < n
past n true d e z = ltb-true (2 ^ 40) n e
past n false d e z = absurd (let no : ⊥ = omega (arith, positive d) in no)

module _ {P T : Type 0} (image : P → List ℕ → List ℕ) (p : P) (m x : List ℕ) (s : DigestSize) (f h : JhFeeder P) where
  pub feed_cases : (r : Result T Refusal) → Holds image p m s f → outcome r ≡ feed_refusal f.feeder.state.count (length x)
      → MatchResult r (λ _. Feeds image x f h) (λ _. h ≡ f)
      → MatchResult r (λ _. (length (m ++ x) ≤ 2 ^ 40) × Holds image p (m ++ x) s h) (λ _. 2 ^ 40 < length (m ++ x))
  feed_cases (Ok u) held answer fed =
      let k = held.stands.counted in (
        omega (arith, within (f.feeder.state.count + length x) (ltb (2 ^ 40) (f.feeder.state.count + length x)) refl answer, length-append m x),
        record {
          permutation = ap (λ y. y.permutation) fed.press ∙ held.permutation;
          size = fed.size ∙ held.size;
          stands = fed.stands m held.stands;
        },
      )
  feed_cases (Err d) held answer fed =
      let k = held.stands.counted in
      omega (arith, past (f.feeder.state.count + length x) (ltb (2 ^ 40) (f.feeder.state.count + length x)) d refl answer, length-append m x)

-- a call that is refused, or not
module _ {T E : Type 0} (A B : Type 0) where
  pub at_refused : (r : Result T E) → is_err r ≡ true → MatchResult r (λ _. A) (λ _. B) → B
  at_refused (Ok x) e c = absurd (both_ways false refl e)
  at_refused (Err d) e c = c

  pub at_accepted : (r : Result T E) → is_err r ≡ false → MatchResult r (λ _. A) (λ _. B) → A
  at_accepted (Ok x) e c = c
  at_accepted (Err d) e c = absurd (both_ways true e refl)
