-- The layers of a round as loops write them: a row of elements that is written over, the first places so far.
use Rattle.std.proofs.Common.{◌≡◌, ℕ, zero, suc, ◌+◌, ◌-◌, ◌*◌, ◌/◌, ◌%◌, ◌<◌, Bool, false, List, [], ◌∷◌, length, get_or, set, sym, refl, ap, ◌∙◌, ap₂, arith}
use Rattle.byte_strings.proofs.Over.{over, over_at, over_more}
use Rattle.jh.specs.Bit.{bit}
use Rattle.jh.specs.Round.{boxed, paired}
use Rattle.jh.specs.Permutation.{bits}
use Rattle.jh.proofs.Places.{boxed_at}
use Rattle.jh.proofs.Undone.{Twos, empty, two, twos}

-- bit i of a row of elements
pub bits_at : (cs : List ℕ) (i : ℕ) → i < 4 * length cs → get_or (bits cs) i false ≡ bit (get_or cs (i / 4) 0) (3 - i % 4)
bits_at [] i h = absurd (let no : ⊥ = omega arith in no)
bits_at (a ∷ cs) zero h = refl
bits_at (a ∷ cs) (suc zero) h = refl
bits_at (a ∷ cs) (suc (suc zero)) h = refl
bits_at (a ∷ cs) (suc (suc (suc zero))) h = refl
bits_at (a ∷ cs) (suc (suc (suc (suc i)))) h =
    let q : suc (suc (suc (suc i))) / 4 ≡ suc (i / 4) = omega arith in
    let r : suc (suc (suc (suc i))) % 4 ≡ i % 4 = omega arith in
    rw (q, r) (bits_at cs i (omega arith))

-- two places more
pub two_more : (i : ℕ) (s d : List ℕ) → length s ≡ length d → 2 * i + 1 < length d
    → set (set (over (2 * i) s d) (2 * i) (get_or s (2 * i) 0)) (2 * i + 1) (get_or s (2 * i + 1) 0) ≡ over (2 * (i + 1)) s d
two_more i s d e h =
    let n : (2 * i + 1) + 1 ≡ 2 * (i + 1) = omega arith in
    ap (λ (ys : List ℕ). set ys (2 * i + 1) (get_or s (2 * i + 1) 0)) (over_more (2 * i) s d e (omega arith))
    ∙ over_more (2 * i + 1) s d e h ∙ ap (λ (k : ℕ). over k s d) n

-- ---- a layer of S-boxes

pub length_boxed : (box : Bool → ℕ → ℕ) (cs : List Bool) (xs : List ℕ) → length cs ≡ length xs → length (boxed box cs xs) ≡ length xs
length_boxed box [] [] e = refl
length_boxed box [] (a ∷ xs) e = absurd (let no : ⊥ = omega arith in no)
length_boxed box (c ∷ cs) [] e = refl
length_boxed box (c ∷ cs) (a ∷ xs) e = let n = length_boxed box cs xs (omega arith) in omega arith

-- the row ys after i elements
module _ (box : Bool → ℕ → ℕ) (cs : List Bool) (xs : List ℕ) (e : length cs ≡ length xs) (i : ℕ) (h : i < length xs)
    (ys : List ℕ) (row : ys ≡ over i (boxed box cs xs) xs) where
  read : get_or ys i 0 ≡ get_or xs i 0
  read = ap (λ (zs : List ℕ). get_or zs i 0) row ∙ over_at i (boxed box cs xs) xs i (length_boxed box cs xs e) (omega arith) h

  pub box_more : (c : Bool) (v : ℕ) → c ≡ get_or cs i false → v ≡ box c (get_or ys i 0) → set ys i v ≡ over (i + 1) (boxed box cs xs) xs
  box_more c v f g =
      ap₂ (λ (zs : List ℕ) (a : ℕ). set zs i a) row (g ∙ ap₂ box f read ∙ sym (boxed_at box cs xs i (omega arith) h))
      ∙ over_more i (boxed box cs xs) xs (length_boxed box cs xs e) h

-- ---- a layer on pairs

module _ (left right : ℕ → ℕ → ℕ) where
  length_twos_paired : {xs : List ℕ} {m : ℕ} → Twos xs m → length (paired left right xs) ≡ length xs
  length_twos_paired empty = refl
  length_twos_paired (two t) = let e = length_twos_paired t in omega arith

  pub length_paired : (xs : List ℕ) → length xs % 2 ≡ 0 → length (paired left right xs) ≡ length xs
  length_paired xs e = length_twos_paired (twos (length xs / 2) xs (omega arith))
