-- P_d and its inverse undo each other, on any number of fours.
use Rattle.std.proofs.Common.{◌≡◌, ℕ, zero, suc, ◌*◌, ◌/◌, List, [], ◌∷◌, ◌++◌, length, take, drop, sym, refl, ap, ◌∙◌, subst, ap₂, arith, length-append, length-drop}
use Rattle.std.proofs.lemmas.List.{take_at, drop_at, take-append-drop, length-take-le}
use Rattle.jh.specs.Round.{turn, evens, odds, swapped, permute}
use Rattle.jh.specs.Inverse.{merge, unpermute}
use Rattle.jh.proofs.Places.{Fours, none, more, front_long, back_long, front, back}

-- a list of m pairs
pub data Twos {A : Type 0} : List A → ℕ → Type 0 where
  empty : Twos [] zero
  two : {a b : A} {xs : List A} {m : ℕ} → Twos xs m → Twos (a ∷ (b ∷ xs)) (suc m)

pub twos : {A : Type 0} (m : ℕ) (xs : List A) → length xs ≡ 2 * m → Twos xs m
twos zero [] e = empty
twos zero (a ∷ xs) e = absurd (let no : ⊥ = omega arith in no)
twos (suc m) [] e = absurd (let no : ⊥ = omega arith in no)
twos (suc m) (a ∷ []) e = absurd (let no : ⊥ = omega arith in no)
twos (suc m) (a ∷ (b ∷ xs)) e = two (twos m xs (omega arith))

pub length_twos : {A : Type 0} {xs : List A} {m : ℕ} → Twos xs m → length xs ≡ 2 * m
length_twos empty = refl
length_twos (two t) = let e = length_twos t in omega arith

pub swapped_twos : {xs : List ℕ} {m : ℕ} → Twos xs m → Twos (swapped xs) m
swapped_twos empty = empty
swapped_twos (two {a} {b} t) = two (swapped_twos t)

pub swapped_swapped : {xs : List ℕ} {m : ℕ} → Twos xs m → swapped (swapped xs) ≡ xs
swapped_swapped empty = refl
swapped_swapped (two {a} {b} t) = ap (λ (ys : List ℕ). a ∷ (b ∷ ys)) (swapped_swapped t)

pub turn_turn : {xs : List ℕ} {m : ℕ} → Fours xs m → turn (turn xs) ≡ xs
turn_turn none = refl
turn_turn (more {a} {b} {c} {d} f) = ap (λ (ys : List ℕ). a ∷ (b ∷ (c ∷ (d ∷ ys)))) (turn_turn f)

turn_fours : {xs : List ℕ} {m : ℕ} → Fours xs m → Fours (turn xs) m
turn_fours none = none
turn_fours (more f) = more (turn_fours f)

-- taking apart and putting together
merge_apart : {xs : List ℕ} {m : ℕ} → Fours xs m → merge (evens (turn xs)) (odds (turn xs)) ≡ turn xs
merge_apart none = refl
merge_apart (more {a} {b} {c} {d} f) = ap (λ (ys : List ℕ). a ∷ (b ∷ (d ∷ (c ∷ ys)))) (merge_apart f)

odds_twos : {xs : List ℕ} {m : ℕ} → Fours xs m → Twos (odds (turn xs)) m
odds_twos none = empty
odds_twos (more {a} {b} {c} {d} f) = two (odds_twos f)

merge_fours : {xs ys : List ℕ} {m : ℕ} → Twos xs m → Twos ys m → Fours (merge xs ys) m
merge_fours empty empty = none
merge_fours (two {a} {b} t) (two {a = c} {b = d} u) = more (merge_fours t u)

evens_merge : {xs ys : List ℕ} {m : ℕ} → Twos xs m → Twos ys m → evens (merge xs ys) ≡ xs
evens_merge empty empty = refl
evens_merge (two {a} {b} t) (two {a = c} {b = d} u) = ap (λ (zs : List ℕ). a ∷ (b ∷ zs)) (evens_merge t u)

odds_merge : {xs ys : List ℕ} {m : ℕ} → Twos xs m → Twos ys m → odds (merge xs ys) ≡ ys
odds_merge empty empty = refl
odds_merge (two {a} {b} t) (two {a = c} {b = d} u) = ap (λ (zs : List ℕ). c ∷ (d ∷ zs)) (odds_merge t u)

pub length_permute : (xs : List ℕ) (m : ℕ) → Fours xs m → length (permute xs) ≡ 4 * m
length_permute xs m f = omega (arith, length-append (front xs) (back xs), front_long f, back_long f)

pub permute_undone : (xs : List ℕ) (m : ℕ) → Fours xs m → unpermute (permute xs) ≡ xs
permute_undone xs m f =
    let n : length (permute xs) / 2 ≡ 2 * m = omega (arith, length_permute xs m f) in
    ap (λ (h : ℕ). turn (merge (take h (permute xs)) (swapped (drop h (permute xs))))) n
    ∙ ap₂ (λ (a b : List ℕ). turn (merge a (swapped b))) (take_at (front xs) (back xs) (2 * m) (front_long f)) (drop_at (front xs) (back xs) (2 * m) (front_long f))
    ∙ ap (λ (b : List ℕ). turn (merge (front xs) b)) (swapped_swapped (odds_twos f))
    ∙ ap turn (merge_apart f)
    ∙ turn_turn f

-- the two halves of 4 m elements
module _ (xs : List ℕ) (m : ℕ) (e : length xs ≡ 4 * m) where
  half : length xs / 2 ≡ 2 * m
  half = omega arith

  first_twos : Twos (take (2 * m) xs) m
  first_twos = twos m (take (2 * m) xs) (length-take-le (2 * m) xs (omega arith))

  second_twos : Twos (drop (2 * m) xs) m
  second_twos = twos m (drop (2 * m) xs) (omega (arith, length-drop (2 * m) xs))

  unpermute_is : unpermute xs ≡ turn (merge (take (2 * m) xs) (swapped (drop (2 * m) xs)))
  unpermute_is = ap (λ (h : ℕ). turn (merge (take h xs) (swapped (drop h xs)))) half

  merged_fours : Fours (merge (take (2 * m) xs) (swapped (drop (2 * m) xs))) m
  merged_fours = merge_fours first_twos (swapped_twos second_twos)

  pub unpermute_fours : Fours (unpermute xs) m
  unpermute_fours = subst (λ (ys : List ℕ). Fours ys m) (sym unpermute_is) (turn_fours merged_fours)

  pub unpermute_undone : permute (unpermute xs) ≡ xs
  unpermute_undone =
      ap permute unpermute_is
      ∙ ap (λ (ys : List ℕ). evens ys ++ swapped (odds ys)) (turn_turn merged_fours)
      ∙ ap₂ (λ (a b : List ℕ). a ++ swapped b)
      (evens_merge first_twos (swapped_twos second_twos))
      (odds_merge first_twos (swapped_twos second_twos))
      ∙ ap (λ (b : List ℕ). take (2 * m) xs ++ b) (swapped_swapped second_twos)
      ∙ take-append-drop (2 * m) xs
