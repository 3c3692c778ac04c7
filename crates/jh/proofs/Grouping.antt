-- Grouping 128 bytes into 256 elements and ungrouping undo each other.
use Rattle.std.proofs.Common.{◌≡◌, ℕ, zero, suc, ◌+◌, ◌-◌, ◌*◌, ◌/◌, ◌%◌, ◌<◌, ◌≤◌, Bool, true, false, cond, eqb, List, [], ◌∷◌, map, length, get_or, sym, refl, ap, ◌∙◌, subst, ap₂, zero-add, arith, eqb→eq}
use mathlib.Core.Bool.{beq}
use Rattle.std.specs.List.{range_with_len, AllByRecursion}
use Rattle.std.proofs.lemmas.List.{ext_get_or}
use Rattle.std.proofs.ByRecursion.{All-get_or}
use Rattle.std.proofs.lemmas.List.FromFn.{length-map-range_with_len, get_or-map-range_with_len}
use Rattle.jh.specs.Bit.{bit, element}
use Rattle.jh.specs.Permutation.{byte_bit, element_from, group, grouped_bit, byte_from, ungroup}
use Rattle.jh.proofs.Below.{below, below_at, bits_at, same}

-- ---- bits of an element and of a byte

cond_le : (b : Bool) (n : ℕ) → cond b n 0 ≤ n
cond_le true n = omega arith
cond_le false n = omega arith

pub element_small : (a b c d : Bool) → element a b c d < 16
element_small a b c d = omega (arith, cond_le a 8, cond_le b 4, cond_le c 2, cond_le d 1)

-- an element of a row of four bits, and a byte of a row of eight
abbrev element_of : List Bool → ℕ
element_of xs = element (get_or xs 0 false) (get_or xs 1 false) (get_or xs 2 false) (get_or xs 3 false)

abbrev byte_of : List Bool → ℕ
byte_of xs =
    16 * element (get_or xs 0 false) (get_or xs 1 false) (get_or xs 2 false) (get_or xs 3 false)
    + element (get_or xs 4 false) (get_or xs 5 false) (get_or xs 6 false) (get_or xs 7 false)

abbrev element_test : List Bool → Bool
element_test xs = below 4 (λ t. beq (bit (element_of xs) (3 - t)) (get_or xs t false))

abbrev byte_test : List Bool → Bool
byte_test xs = below 8 (λ k. beq (bit (byte_of xs) (7 - k)) (get_or xs k false))

element_bit : (a b c d : Bool) (t : ℕ) → t < 4 → bit (element a b c d) (3 - t) ≡ get_or (a ∷ b ∷ c ∷ d ∷ []) t false
element_bit a b c d t h =
    let xs : List Bool = a ∷ b ∷ c ∷ d ∷ [] in
    same (bit (element a b c d) (3 - t)) (get_or xs t false)
    (below_at 4 (λ k. beq (bit (element_of xs) (3 - k)) (get_or xs k false)) (bits_at element_test xs tt) t h)

byte_from_bit : (a b c d e f g h : Bool) (k : ℕ) → k < 8
    → bit (16 * element a b c d + element e f g h) (7 - k) ≡ get_or (a ∷ b ∷ c ∷ d ∷ e ∷ f ∷ g ∷ h ∷ []) k false
byte_from_bit a b c d e f g h k l =
    let xs : List Bool = a ∷ b ∷ c ∷ d ∷ e ∷ f ∷ g ∷ h ∷ [] in
    same (bit (16 * element a b c d + element e f g h) (7 - k)) (get_or xs k false)
    (below_at 8 (λ j. beq (bit (byte_of xs) (7 - j)) (get_or xs j false)) (bits_at byte_test xs tt) k l)

element_whole : (v : ℕ) → v < 16 → element (bit v 3) (bit v 2) (bit v 1) (bit v 0) ≡ v
element_whole v h =
    eqb→eq (element (bit v 3) (bit v 2) (bit v 1) (bit v 0)) v
    (below_at 16 (λ a. eqb (element (bit a 3) (bit a 2) (bit a 1) (bit a 0)) a) tt v h)

byte_whole : (v : ℕ) → v < 256 → 16 * element (bit v 7) (bit v 6) (bit v 5) (bit v 4) + element (bit v 3) (bit v 2) (bit v 1) (bit v 0) ≡ v
byte_whole v h =
    eqb→eq (16 * element (bit v 7) (bit v 6) (bit v 5) (bit v 4) + element (bit v 3) (bit v 2) (bit v 1) (bit v 0)) v
    (below_at 256 (λ a. eqb (16 * element (bit a 7) (bit a 6) (bit a 5) (bit a 4) + element (bit a 3) (bit a 2) (bit a 1) (bit a 0)) a) tt v h)

-- ---- one of four, one of eight, by a function of the place

picked_four : (f : ℕ → Bool) (i t : ℕ) → t < 4 → get_or (f i ∷ f (i + 256) ∷ f (i + 512) ∷ f (i + 768) ∷ []) t false ≡ f (i + 256 * t)
picked_four f i zero h = ap f (omega arith)
picked_four f i (suc zero) h = refl
picked_four f i (suc (suc zero)) h = refl
picked_four f i (suc (suc (suc zero))) h = refl
picked_four f i (suc (suc (suc (suc t)))) h = absurd (let no : ⊥ = omega arith in no)

picked_eight : (f : ℕ → Bool) (i k : ℕ) → k < 8
    → get_or (f i ∷ f (i + 1) ∷ f (i + 2) ∷ f (i + 3) ∷ f (i + 4) ∷ f (i + 5) ∷ f (i + 6) ∷ f (i + 7) ∷ []) k false ≡ f (i + k)
picked_eight f i zero h = ap f (omega arith)
picked_eight f i (suc zero) h = refl
picked_eight f i (suc (suc zero)) h = refl
picked_eight f i (suc (suc (suc zero))) h = refl
picked_eight f i (suc (suc (suc (suc zero)))) h = refl
picked_eight f i (suc (suc (suc (suc (suc zero))))) h = refl
picked_eight f i (suc (suc (suc (suc (suc (suc zero)))))) h = refl
picked_eight f i (suc (suc (suc (suc (suc (suc (suc zero))))))) h = refl
picked_eight f i (suc (suc (suc (suc (suc (suc (suc (suc k)))))))) h = absurd (let no : ⊥ = omega arith in no)

-- ---- lengths and bounds

pub length_group : (x : List ℕ) → length (group x) ≡ 256
unfolding group
length_group x = length-map-range_with_len (element_from x) 0 256

pub length_ungroup : (q : List ℕ) → length (ungroup q) ≡ 128
unfolding ungroup
length_ungroup q = length-map-range_with_len (byte_from q) 0 128

pub group_at : (x : List ℕ) (p : ℕ) → p < 256 → get_or (group x) p 0 ≡ element_from x p
unfolding group
group_at x p h = get_or-map-range_with_len (element_from x) 0 256 p p 0 h (zero-add p)

pub ungroup_at : (q : List ℕ) (b : ℕ) → b < 128 → get_or (ungroup q) b 0 ≡ byte_from q b
unfolding ungroup
ungroup_at q b h = get_or-map-range_with_len (byte_from q) 0 128 b b 0 h (zero-add b)

all_map : (P : ℕ → Type 0) (f : ℕ → ℕ) → ((k : ℕ) → P (f k)) → (ks : List ℕ) → AllByRecursion P (map f ks)
all_map P f h [] = tt
all_map P f h (k ∷ ks) = (h k, all_map P f h ks)

pub element_from_small : (x : List ℕ) (p : ℕ) → element_from x p < 16
element_from_small x p =
    let i : ℕ = p % 2 * 128 + p / 2 in
    element_small (byte_bit x i) (byte_bit x (i + 256)) (byte_bit x (i + 512)) (byte_bit x (i + 768))

pub group_small : (x : List ℕ) → AllByRecursion (λ a. a < 16) (group x)
unfolding group
group_small x = all_map (λ a. a < 16) (element_from x) (element_from_small x) (range_with_len 0 256)

pub byte_from_small : (q : List ℕ) (b : ℕ) → byte_from q b < 256
byte_from_small q b =
    omega (
      arith,
      element_small (grouped_bit q (8 * b)) (grouped_bit q (8 * b + 1)) (grouped_bit q (8 * b + 2)) (grouped_bit q (8 * b + 3)),
      element_small (grouped_bit q (8 * b + 4)) (grouped_bit q (8 * b + 5)) (grouped_bit q (8 * b + 6)) (grouped_bit q (8 * b + 7)),
    )

pub ungroup_small : (q : List ℕ) → AllByRecursion (λ a. a < 256) (ungroup q)
unfolding ungroup
ungroup_small q = all_map (λ a. a < 256) (byte_from q) (byte_from_small q) (range_with_len 0 128)

-- ---- ungrouping a group

-- where bit j of the state stands among the elements, and back: a test at each of the 1,024 places
abbrev place : ℕ → ℕ
place j = 2 * (j % 128) + j / 128 % 2

abbrev origin : ℕ → ℕ
origin p = p % 2 * 128 + p / 2

from_back : (j : ℕ) → j < 1024 → origin (place j) + 256 * (j / 256) ≡ j
from_back j h = eqb→eq (origin (place j) + 256 * (j / 256)) j (below_at 1024 (λ i. eqb (origin (place i) + 256 * (i / 256)) i) tt j h)

abbrev back_test : ℕ → ℕ → Bool
back_test p t = eqb (place (origin p + 256 * t)) p

back_from : (p t : ℕ) → p < 256 → t < 4 → place (origin p + 256 * t) ≡ p
back_from p t h l = eqb→eq (place (origin p + 256 * t)) p (below_at 4 (back_test p) (below_at 256 (λ a. below 4 (back_test a)) tt p h) t l)

group_bit : (x : List ℕ) (j : ℕ) → j < 1024 → grouped_bit (group x) j ≡ byte_bit x j
group_bit x j h =
    let p : ℕ = 2 * (j % 128) + j / 128 % 2 in
    let i : ℕ = p % 2 * 128 + p / 2 in
    let back : i + 256 * (j / 256) ≡ j = from_back j h in
    let t : j / 256 < 4 = omega arith in
    ap (λ (v : ℕ). bit v (3 - j / 256)) (group_at x p (omega arith))
    ∙ element_bit (byte_bit x i) (byte_bit x (i + 256)) (byte_bit x (i + 512)) (byte_bit x (i + 768)) (j / 256) t
    ∙ picked_four (byte_bit x) i (j / 256) t
    ∙ ap (byte_bit x) back

byte_place : (x : List ℕ) (b k j : ℕ) → k < 8 → j ≡ 8 * b + k → byte_bit x j ≡ bit (get_or x b 0) (7 - k)
byte_place x b k j h e =
    let q : j / 8 ≡ b = omega arith in
    let r : j % 8 ≡ k = omega arith in
    ap₂ (λ (m n : ℕ). bit (get_or x m 0) (7 - n)) q r

pub ungroup_group : (x : List ℕ) → length x ≡ 128 → AllByRecursion (λ a. a < 256) x → ungroup (group x) ≡ x
ungroup_group x e s =
    ext_get_or 0 (ungroup (group x)) x (length_ungroup (group x) ∙ sym e)
    (λ b l.
    let h : b < 128 = subst (λ (n : ℕ). b < n) (length_ungroup (group x)) l in
    let at : (k : ℕ) (j : ℕ) → k < 8 → j ≡ 8 * b + k → grouped_bit (group x) j ≡ bit (get_or x b 0) (7 - k) =
    λ k j m n. group_bit x j (omega arith) ∙ byte_place x b k j m n in
    let b0 = at 0 (8 * b) (omega arith) (omega arith) in
    let b1 = at 1 (8 * b + 1) (omega arith) (omega arith) in
    let b2 = at 2 (8 * b + 2) (omega arith) (omega arith) in
    let b3 = at 3 (8 * b + 3) (omega arith) (omega arith) in
    let b4 = at 4 (8 * b + 4) (omega arith) (omega arith) in
    let b5 = at 5 (8 * b + 5) (omega arith) (omega arith) in
    let b6 = at 6 (8 * b + 6) (omega arith) (omega arith) in
    let b7 = at 7 (8 * b + 7) (omega arith) (omega arith) in
    ungroup_at (group x) b h
    ∙ (λ i. 16 * element (b0 i) (b1 i) (b2 i) (b3 i) + element (b4 i) (b5 i) (b6 i) (b7 i))
    ∙ byte_whole (get_or x b 0) (All-get_or (λ a. a < 256) x b 0 (subst (λ (n : ℕ). b < n) (sym e) h) s))

-- ---- grouping what was ungrouped

ungroup_bit : (q : List ℕ) (j : ℕ) → j < 1024 → byte_bit (ungroup q) j ≡ grouped_bit q j
ungroup_bit q j h =
    let b : ℕ = j / 8 in
    let f : ℕ → Bool = grouped_bit q in
    let k : j % 8 < 8 = omega arith in
    let e : 8 * (j / 8) + j % 8 ≡ j = omega arith in
    ap (λ (v : ℕ). bit v (7 - j % 8)) (ungroup_at q b (omega arith))
    ∙ byte_from_bit (f (8 * b)) (f (8 * b + 1)) (f (8 * b + 2)) (f (8 * b + 3)) (f (8 * b + 4)) (f (8 * b + 5)) (f (8 * b + 6)) (f (8 * b + 7)) (j % 8) k
    ∙ picked_eight f (8 * b) (j % 8) k
    ∙ ap f e

element_place : (q : List ℕ) (p t j : ℕ) → p < 256 → t < 4 → j ≡ p % 2 * 128 + p / 2 + 256 * t → grouped_bit q j ≡ bit (get_or q p 0) (3 - t)
element_place q p t j h l e =
    let m : place j ≡ p = ap place e ∙ back_from p t h l in
    let n : j / 256 ≡ t = omega arith in
    ap₂ (λ (x y : ℕ). bit (get_or q x 0) (3 - y)) m n

pub group_ungroup : (q : List ℕ) → length q ≡ 256 → AllByRecursion (λ a. a < 16) q → group (ungroup q) ≡ q
group_ungroup q e s =
    ext_get_or 0 (group (ungroup q)) q (length_group (ungroup q) ∙ sym e)
    (λ p l.
    let h : p < 256 = subst (λ (n : ℕ). p < n) (length_group (ungroup q)) l in
    let i : ℕ = p % 2 * 128 + p / 2 in
    let at : (t : ℕ) (j : ℕ) → t < 4 → j ≡ p % 2 * 128 + p / 2 + 256 * t → byte_bit (ungroup q) j ≡ bit (get_or q p 0) (3 - t) =
    λ t j m n. ungroup_bit q j (omega arith) ∙ element_place q p t j h m n in
    let b0 = at 0 i (omega arith) (omega arith) in
    let b1 = at 1 (i + 256) (omega arith) (omega arith) in
    let b2 = at 2 (i + 512) (omega arith) (omega arith) in
    let b3 = at 3 (i + 768) (omega arith) (omega arith) in
    group_at (ungroup q) p h
    ∙ (λ k. element (b0 k) (b1 k) (b2 k) (b3 k))
    ∙ element_whole (get_or q p 0) (All-get_or (λ a. a < 16) q p 0 (subst (λ (n : ℕ). p < n) (sym e) h) s))
