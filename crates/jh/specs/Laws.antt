-- What the definitions promise of one another.
use Rattle.std.specs.Prelude.{◌≡◌, ℕ, ◌+◌, ◌^◌, ◌<◌, ◌≤◌, Bool, List, length}
use Rattle.std.specs.List.{AllByRecursion}
use Rattle.byte_strings.specs.Bytes.{Bytes}
use Rattle.jh.specs.Round.{sbox, first, second, permute, round}
use Rattle.jh.specs.Constants.{C0}
use Rattle.jh.specs.Permutation.{e8}
use Rattle.jh.specs.Inverse.{unsbox, unfirst, unsecond, unpermute, unround, e8⁻¹}

-- each S-box and its inverse undo each other, and give elements
abbrev pub BoxesUndone : Type 0
BoxesUndone = (c : Bool) (a : ℕ) → a < 16
    → (unsbox c (sbox c a) ≡ a) × (sbox c (unsbox c a) ≡ a) × (sbox c a < 16) × (unsbox c a < 16)

-- L and its inverse undo each other
abbrev pub LUndone : Type 0
LUndone = (a b : ℕ) → a < 16 → b < 16
    → (unfirst (first a b) (second a b) ≡ a) × (unsecond (first a b) (second a b) ≡ b)
    × (first (unfirst a b) (unsecond a b) ≡ a) × (second (unfirst a b) (unsecond a b) ≡ b)

-- 2^d elements
pub record Elements (d : ℕ) (xs : List ℕ) : Type 0 where
  pub long : length xs ≡ 2 ^ d
  pub small : AllByRecursion (λ a. a < 16) xs

-- P_d and its inverse undo each other, at every dimension d from 2 on
abbrev pub PermuteUndone : Type 0
PermuteUndone = (d : ℕ) → 2 ≤ d → (xs : List ℕ) → length xs ≡ 2 ^ d → (unpermute (permute xs) ≡ xs) × (permute (unpermute xs) ≡ xs)

-- R_d and its inverse undo each other, and keep 2^d elements
abbrev pub RoundUndone : Type 0
RoundUndone = (d : ℕ) → 2 ≤ d → (cs : List Bool) → length cs ≡ 2 ^ d → (xs : List ℕ) → Elements d xs
    → (unround cs (round cs xs) ≡ xs) × (round cs (unround cs xs) ≡ xs) × Elements d (round cs xs) × Elements d (unround cs xs)

-- E8 and its inverse undo each other on every 128 bytes, and give 128 bytes
abbrev pub E8Undone : Type 0
E8Undone = (x : List ℕ) → Bytes 128 x
    → (e8⁻¹ (e8 x) ≡ x) × (e8 (e8⁻¹ x) ≡ x) × Bytes 128 (e8 x) × Bytes 128 (e8⁻¹ x)

-- C_0 is the fraction of the square root of 2, in 256 bits
abbrev pub C0Root : Type 0
C0Root = ((C0 + 2 ^ 256) ^ 2 ≤ 2 ^ 513) × (2 ^ 513 < (C0 + 2 ^ 256 + 1) ^ 2)
