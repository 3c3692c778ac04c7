-- A table holds the round constants of the sliced form: one test that antt computes, row by row.
use Rattle.std.proofs.Common.{◌≡◌, ℕ, zero, suc, ◌+◌, ◌%◌, ◌<◌, Bool, true, false, ◌&&◌, T, List, [], ◌∷◌, get_or, length, sym, ap, ◌∙◌, subst, add-zero, zero-add, arith}
use mathlib.Core.Bool.{beq}
use Rattle.jh.specs.Round.{round}
use Rattle.jh.specs.Constants.{zeros, constant}
use Rattle.jh.specs.Permutation.{bits}
use Rattle.jh.proofs.Below.{both_left, both_right, same}
use Rattle.slicing.specs.Halves.{pair_bit}
use Rattle.slicing.specs.Constants.{even_part, odd_part}
use Rattle.words.specs.Bits.{word_bit}
use Rattle.sliced_constants.specs.Constants.{IsConstant}
use Rattle.sliced_constants.specs.declared.RoundConstant.{RoundConstant}
use Rattle.slicing.proofs.Rule.{constant_again}

-- the n bits f i, f (i + 1) .. are those of a list
unfoldable pub agree : (ℕ → Bool) → ℕ → ℕ → List Bool → Bool
agree f i zero xs = true
agree f i (suc n) [] = false
agree f i (suc n) (b ∷ xs) = beq (f i) b && agree f (suc i) n xs

agree_at : (f : ℕ → Bool) (i n : ℕ) (xs : List Bool) → T (agree f i n xs) → (k : ℕ) → k < n → f (i + k) ≡ get_or xs k false
unfolding agree
agree_at f i zero xs t k h = absurd (let no : ⊥ = omega arith in no)
agree_at f i (suc n) [] t k h = absurd t
agree_at f i (suc n) (b ∷ xs) t zero h = ap f (add-zero i) ∙ same (f i) b (both_left (beq (f i) b) (agree f (suc i) n xs) t)
agree_at f i (suc n) (b ∷ xs) t (suc k) h =
    let e : i + suc k ≡ suc i + k = omega arith in
    ap f e ∙ agree_at f (suc i) n xs (both_right (beq (f i) b) (agree f (suc i) n xs) t) k (omega arith)

-- half k of word j of a row
abbrev half : List (List ℕ) → ℕ → ℕ → ℕ
half row j k = get_or (get_or row j []) k 0

abbrev word_in : List (List ℕ) → ℕ → ℕ → Bool
word_in row j = pair_bit (half row j 0) (half row j 1)

-- the row is the constant c in round r; the rule is applied r mod 7 times, after which the places are as after r
unfoldable pub row_test : ℕ → List ℕ → List (List ℕ) → Bool
row_test r c row = agree (word_in row 0) 0 128 (even_part (r % 7) (bits c)) && agree (word_in row 1) 0 128 (odd_part (r % 7) (bits c))

-- the rows of t, from round r on
unfoldable pub table_test : ℕ → List ℕ → List (List (List ℕ)) → Bool
table_test r c [] = true
table_test r c (row ∷ t) = row_test r c row && table_test (suc r) (round zeros c) t

row_at : (r : ℕ) (t : List (List (List ℕ))) → T (table_test r (constant r) t) → (k : ℕ) → k < length t → T (row_test (r + k) (constant (r + k)) (get_or t k []))
unfolding table_test
row_at r [] w k h = absurd (let no : ⊥ = omega arith in no)
row_at r (row ∷ t) w zero h =
    subst (λ (m : ℕ). T (row_test m (constant m) row)) (sym (add-zero r))
    (both_left (row_test r (constant r) row) (table_test (suc r) (constant (suc r)) t) w)
row_at r (row ∷ t) w (suc k) h =
    let e : suc r + k ≡ r + suc k = omega arith in
    subst (λ (m : ℕ). T (row_test m (constant m) (get_or t k []))) e
    (row_at (suc r) t (both_right (row_test r (constant r) row) (table_test (suc r) (constant (suc r)) t) w) k (omega arith))

-- row r of a table that passes is the constant of round r
module _ (t : List (List (List ℕ))) (r : ℕ) (h : r < length t) (w : T (table_test 0 (constant 0) t)) where
  abbrev row : List (List ℕ)
  row = get_or t r []

  abbrev even : Bool
  even = agree (word_in row 0) 0 128 (even_part (r % 7) (bits (constant r)))

  abbrev odd : Bool
  odd = agree (word_in row 1) 0 128 (odd_part (r % 7) (bits (constant r)))

  passed : T (even && odd)
  unfolding row_test
  passed = subst (λ (m : ℕ). T (row_test m (constant m) row)) (zero-add r) (row_at 0 t w r h)

  pub row_right : (c : RoundConstant) → ((i : ℕ) → word_bit c.even i ≡ word_in row 0 i) → ((i : ℕ) → word_bit c.odd i ≡ word_in row 1 i) → IsConstant r c
  row_right c e o = record {
    even = λ i g.
        e i ∙ ap (word_in row 0) (sym (zero-add i)) ∙ agree_at (word_in row 0) 0 128 _ (both_left even odd passed) i g
        ∙ (constant_again r i g).0;
    odd = λ i g.
        o i ∙ ap (word_in row 1) (sym (zero-add i)) ∙ agree_at (word_in row 1) 0 128 _ (both_right even odd passed) i g
        ∙ (constant_again r i g).1;
  }
