-- The inverses of a round and of E8.
use Rattle.std.specs.Prelude.{ℕ, zero, suc, ◌/◌, Bool, cond, List, [], ◌∷◌, length, take, drop, bit_xor, slice_index}
use Rattle.jh.specs.Field.{times}
use Rattle.jh.specs.Round.{boxed, paired, turn, swapped}
use Rattle.jh.specs.Constants.{constant}
use Rattle.jh.specs.Permutation.{group, ungroup, bits}

-- the inverse S-boxes, by output
abbrev pub S0⁻¹ : List ℕ
S0⁻¹ = 1 ∷ 8 ∷ 10 ∷ 6 ∷ 2 ∷ 13 ∷ 11 ∷ 12 ∷ 14 ∷ 0 ∷ 9 ∷ 3 ∷ 5 ∷ 4 ∷ 15 ∷ 7 ∷ []

abbrev pub S1⁻¹ : List ℕ
S1⁻¹ = 10 ∷ 6 ∷ 9 ∷ 0 ∷ 11 ∷ 4 ∷ 2 ∷ 5 ∷ 15 ∷ 7 ∷ 13 ∷ 12 ∷ 1 ∷ 3 ∷ 14 ∷ 8 ∷ []

abbrev pub unsbox : Bool → ℕ → ℕ
unsbox c a = slice_index (cond c S1⁻¹ S0⁻¹) a

-- the pair (unfirst c d, unsecond c d) is the one that L turns into (c, d): A = C + 2•D and B = D + 2•A
abbrev pub unfirst : ℕ → ℕ → ℕ
unfirst c d = bit_xor c (times 2 d)

abbrev pub unsecond : ℕ → ℕ → ℕ
unsecond c d = bit_xor d (times 2 (unfirst c d))

abbrev pub unsubstitute : List Bool → List ℕ → List ℕ
unsubstitute = boxed unsbox

abbrev pub unmix : List ℕ → List ℕ
unmix = paired unfirst unsecond

-- the elements of two lists in turn
abbrev pub merge : {A : Type 0} → List A → List A → List A
merge [] ys = []
merge (x ∷ xs) [] = []
merge (x ∷ xs) (y ∷ ys) = x ∷ (y ∷ merge xs ys)

-- P_d undone
abbrev pub unpermute : {A : Type 0} → List A → List A
unpermute xs = turn (merge (take (length xs / 2) xs) (swapped (drop (length xs / 2) xs)))

-- R_d undone
abbrev pub unround : List Bool → List ℕ → List ℕ
unround cs xs = unsubstitute cs (unmix (unpermute xs))

-- r rounds undone, the last one first
unfoldable pub before : ℕ → List ℕ → List ℕ
before zero q = q
before (suc r) q = before r (unround (bits (constant r)) q)

unfoldable pub e8⁻¹ : List ℕ → List ℕ
e8⁻¹ x = ungroup (before 42 (group x))
