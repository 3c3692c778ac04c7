-- The round function R_d of JH on a list of 2^d elements of four bits: S-boxes, the linear transformation L, the permutation P_d.
use Rattle.std.specs.Prelude.{ℕ, Bool, cond, List, [], ◌∷◌, ◌++◌, bit_xor, slice_index}
use Rattle.jh.specs.Field.{times}

-- the two S-boxes, by input
abbrev pub S0 : List ℕ
S0 = 9 ∷ 0 ∷ 4 ∷ 11 ∷ 13 ∷ 12 ∷ 3 ∷ 15 ∷ 1 ∷ 10 ∷ 2 ∷ 6 ∷ 7 ∷ 5 ∷ 8 ∷ 14 ∷ []

abbrev pub S1 : List ℕ
S1 = 3 ∷ 12 ∷ 6 ∷ 13 ∷ 5 ∷ 7 ∷ 1 ∷ 9 ∷ 15 ∷ 2 ∷ 0 ∷ 4 ∷ 11 ∷ 10 ∷ 14 ∷ 8 ∷ []

-- the S-box that a constant bit chooses: S0 where it is 0, S1 where it is 1
abbrev pub sbox : Bool → ℕ → ℕ
sbox c a = slice_index (cond c S1 S0) a

-- L of the pair (a, b) is the pair (first a b, second a b): C = 5•A + 2•B and D = 2•A + B
abbrev pub first : ℕ → ℕ → ℕ
first a b = bit_xor (times 5 a) (times 2 b)

abbrev pub second : ℕ → ℕ → ℕ
second a b = bit_xor (times 2 a) b

-- a layer of S-boxes: element i goes through `box` as bit i chooses
abbrev pub boxed : (Bool → ℕ → ℕ) → List Bool → List ℕ → List ℕ
boxed box [] xs = []
boxed box (c ∷ cs) [] = []
boxed box (c ∷ cs) (a ∷ xs) = box c a ∷ boxed box cs xs

abbrev pub substitute : List Bool → List ℕ → List ℕ
substitute = boxed sbox

-- a layer on pairs: the elements 2i and 2i + 1, as a and b, become left a b and right a b
abbrev pub paired : (ℕ → ℕ → ℕ) → (ℕ → ℕ → ℕ) → List ℕ → List ℕ
paired left right [] = []
paired left right (a ∷ []) = []
paired left right (a ∷ (b ∷ xs)) = left a b ∷ (right a b ∷ paired left right xs)

abbrev pub mix : List ℕ → List ℕ
mix = paired first second

-- the last two of each four change places
abbrev pub turn : {A : Type 0} → List A → List A
turn [] = []
turn (a ∷ []) = []
turn (a ∷ (b ∷ [])) = []
turn (a ∷ (b ∷ (c ∷ []))) = []
turn (a ∷ (b ∷ (c ∷ (d ∷ xs)))) = a ∷ (b ∷ (d ∷ (c ∷ turn xs)))

-- the elements at even places, and those at odd places
abbrev pub evens : {A : Type 0} → List A → List A
evens [] = []
evens (a ∷ []) = a ∷ []
evens (a ∷ (b ∷ xs)) = a ∷ evens xs

abbrev pub odds : {A : Type 0} → List A → List A
odds [] = []
odds (a ∷ []) = []
odds (a ∷ (b ∷ xs)) = b ∷ odds xs

-- each pair of neighbours changes places
abbrev pub swapped : {A : Type 0} → List A → List A
swapped [] = []
swapped (a ∷ []) = []
swapped (a ∷ (b ∷ xs)) = b ∷ (a ∷ swapped xs)

-- P_d
abbrev pub permute : {A : Type 0} → List A → List A
permute xs = evens (turn xs) ++ swapped (odds (turn xs))

-- R_d, with 2^d constant bits
abbrev pub round : List Bool → List ℕ → List ℕ
round cs xs = permute (mix (substitute cs xs))
