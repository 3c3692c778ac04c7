-- A press's steps through rows of passages, and their undoing.
use Rattle.std.proofs.Common.{◌≡◌, ℕ, true, false, cond, eqb, List, [], ◌∷◌, ◌++◌, take, drop, fold, sym, refl, ap, ◌∙◌}
use Rattle.std.specs.List.{AllByRecursion}
use Rattle.std.proofs.lemmas.List.{take-append-drop}
use Rattle.byte_strings.specs.Bytes.{Bytes}
use Rattle.passages.specs.Fields.{serial_of}
use Rattle.passages.specs.Rows.{without, onward, later}
use Rattle.daybook.specs.States.{unwound}

pub folded_append : {A B : Type 0} (f : B → A → B) (b : B) (xs ys : List A) → fold f b (xs ++ ys) ≡ fold f (fold f b xs) ys
folded_append f b [] ys = refl
folded_append f b (x ∷ xs) ys = folded_append f (f b x) xs ys

pub folded_parts : {A B : Type 0} (f : B → A → B) (b : B) (xs : List A) (i : ℕ) → fold f b xs ≡ fold f (fold f b (take i xs)) (drop i xs)
folded_parts f b xs i = ap (fold f b) (sym (take-append-drop i xs)) ∙ folded_append f b (take i xs) (drop i xs)

module _ (step : List ℕ → List ℕ → List ℕ) (chains : (c m : List ℕ) → Bytes 128 c → Bytes 64 m → Bytes 128 (step c m)) where
  pub folded_chain : (c : List ℕ) (ms : List (List ℕ)) → Bytes 128 c → AllByRecursion (Bytes 64) ms → Bytes 128 (fold step c ms)
  folded_chain c [] hc hs = hc
  folded_chain c (m ∷ ms) hc hs = folded_chain (step c m) ms (chains c m hc hs.0) hs.1

  module _ (back : List ℕ → List ℕ → List ℕ) (undoes : (c m : List ℕ) → Bytes 128 c → Bytes 64 m → back (step c m) m ≡ c) where
    -- wound back through the passages that led to it, a chain value is where they started
    unwound_folded : (c : List ℕ) (ms : List (List ℕ)) → Bytes 128 c → AllByRecursion (Bytes 64) ms → unwound back (fold step c ms) ms ≡ c
    unwound_folded c [] hc hs = refl
    unwound_folded c (m ∷ ms) hc hs =
        ap (λ (x : List ℕ). back x m) (unwound_folded (step c m) ms (chains c m hc hs.0) hs.1) ∙ undoes c m hc hs.0

    -- wound back to the passage with the serial n and stepped through the later ones, it is as if that one had never passed
    pub cancelled_seal : (n : ℕ) (c : List ℕ) (ms : List (List ℕ)) → Bytes 128 c → AllByRecursion (Bytes 64) ms
        → fold step (unwound back (fold step c ms) (onward n ms)) (later n ms) ≡ fold step c (without n ms)
    cancelled_seal n c [] hc hs = refl
    cancelled_seal n c (m ∷ ms) hc hs =
        elim (eqb (serial_of m) n)
        as (λ b. fold step (unwound back (fold step (step c m) ms) (cond b (m ∷ ms) (onward n ms))) (cond b ms (later n ms)) ≡ fold step c (cond b ms (m ∷ without n ms))) [
          | true ↦ ap (λ (x : List ℕ). fold step x ms) (unwound_folded c (m ∷ ms) hc hs)
          | false ↦ cancelled_seal n (step c m) ms (chains c m hc hs.0) hs.1
        ]
