-- The circuits of the code on single bits, line by line: each is right at every input, by a test that antt computes.
use mathlib.Core.Path.{◌≡◌}
use mathlib.Core.Bool.{Bool, false, not, ◌&&◌, ◌||◌}
use mathlib.Core.List.{List, [], ◌∷◌}
use Prim.Native.Nat.{ℕ, ◌<◌}
use lib.Bits.{bit_xor}
use lib.Dec.{T, eqb, eqb→eq}
use lib.ListN.{get_or, length}
use Rattle.jh.specs.Bit.{differ, element}
use Rattle.jh.specs.Field.{times}
use Rattle.jh.specs.Round.{sbox}
use Rattle.jh.specs.Inverse.{unsbox}
use Rattle.jh.proofs.Below.{every_bits, bits_at}
use Rattle.jh.proofs.Grouping.{element_small}
use Rattle.words.specs.Bits.{word_bit}
use Rattle.sliced.specs.Slices.{element_at}
use Rattle.sliced.specs.declared.slices.Slices.{Slices}

-- ---- two functions of bits that agree everywhere

abbrev at : List Bool → ℕ → Bool
at bs k = get_or bs k false

abbrev five : (Bool → Bool → Bool → Bool → Bool → ℕ) → List Bool → ℕ
five f bs = f (at bs 0) (at bs 1) (at bs 2) (at bs 3) (at bs 4)

abbrev eight : (Bool → Bool → Bool → Bool → Bool → Bool → Bool → Bool → ℕ) → List Bool → ℕ
eight f bs = f (at bs 0) (at bs 1) (at bs 2) (at bs 3) (at bs 4) (at bs 5) (at bs 6) (at bs 7)

by_test : (f g : List Bool → ℕ) (bs : List Bool) → T (every_bits (length bs) (λ bs. eqb (f bs) (g bs))) → f bs ≡ g bs
by_test f g bs t = eqb→eq (f bs) (g bs) (bits_at (λ bs. eqb (f bs) (g bs)) bs t)

-- a function of the four bits of element i
abbrev pub of_element : {A : Type 0} → (Bool → Bool → Bool → Bool → A) → Slices → ℕ → A
of_element f x i = f (word_bit x.0 i) (word_bit x.1 i) (word_bit x.2 i) (word_bit x.3 i)

abbrev four : Bool → Bool → Bool → Bool → List Bool → List Bool
four a b c d bs = a ∷ b ∷ c ∷ d ∷ bs

-- ---- the S-boxes, at an element and the bit that chooses

abbrev pub substituted : Bool → Bool → Bool → Bool → Bool → ℕ
substituted x0 x1 x2 x3 c =
    let n3 : Bool = not x3 in
    let p0 : Bool = differ x0 (c && not x2) in
    let t : Bool = differ c (p0 && x1) in
    let q0 : Bool = differ p0 (x2 && n3) in
    let q3 : Bool = differ n3 (not x1 && x2) in
    let q1 : Bool = differ x1 (q0 && x2) in
    let q2 : Bool = differ x2 (q0 && not q3) in
    let y0 : Bool = differ q0 (q1 || q3) in
    let y3 : Bool = differ q3 (q1 && q2) in
    let y1 : Bool = differ q1 (t && y0) in
    let y2 : Bool = differ q2 t in
    element y0 y1 y2 y3

pub substituted_right : (x : Slices) (i : ℕ) (c : Bool) → of_element substituted x i c ≡ sbox c (element_at x i)
substituted_right x i c = by_test (five substituted) (five (λ x0 x1 x2 x3 c. sbox c (element x0 x1 x2 x3))) (of_element four x i (c ∷ [])) tt

-- ---- their inverses

abbrev pub unsubstituted : Bool → Bool → Bool → Bool → Bool → ℕ
unsubstituted y0 y1 y2 y3 c =
    let n3 : Bool = not y3 in
    let t0 : Bool = differ y0 y3 in
    let t1 : Bool = y1 && not y0 in
    let t2 : Bool = differ y2 c in
    let t3 : Bool = differ y1 (y0 && not c) in
    let t4 : Bool = t0 && t2 in
    let t5 : Bool = n3 && t2 in
    let t6 : Bool = t0 && differ t3 t5 in
    let t7 : Bool = differ y0 t4 && not t3 in
    let x1 : Bool = differ t6 t7 in
    let x2 : Bool = differ (n3 && t3) (t2 && not t1) in
    let x3 : Bool = differ (differ (n3 && not t1) t4) (t2 || t6) in
    let x0 : Bool = differ ((t0 || t5) && not t7) (c && not x2) in
    element x0 x1 x2 x3

pub unsubstituted_right : (y : Slices) (i : ℕ) (c : Bool) → of_element unsubstituted y i c ≡ unsbox c (element_at y i)
unsubstituted_right y i c = by_test (five unsubstituted) (five (λ y0 y1 y2 y3 c. unsbox c (element y0 y1 y2 y3))) (of_element four y i (c ∷ [])) tt

-- ---- an element and twice another

abbrev pub twice_added : Bool → Bool → Bool → Bool → Bool → Bool → Bool → Bool → ℕ
twice_added x0 x1 x2 x3 y0 y1 y2 y3 = element (differ x0 y1) (differ x1 y2) (differ (differ x2 y3) y0) (differ x3 y0)

pub twice_added_right : (x y : Slices) (i : ℕ) → of_element (of_element twice_added x i) y i ≡ bit_xor (element_at x i) (times 2 (element_at y i))
twice_added_right x y i =
    by_test (eight twice_added) (eight (λ x0 x1 x2 x3 y0 y1 y2 y3. bit_xor (element x0 x1 x2 x3) (times 2 (element y0 y1 y2 y3))))
    (of_element four x i (of_element four y i [])) tt

pub small : (x : Slices) (i : ℕ) → element_at x i < 16
small x i = element_small (word_bit x.0 i) (word_bit x.1 i) (word_bit x.2 i) (word_bit x.3 i)
