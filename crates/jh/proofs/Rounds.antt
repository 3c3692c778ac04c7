-- R_d and its inverse undo each other on elements, over any number of fours.
use Rattle.std.proofs.Common.{◌≡◌, ℕ, ◌+◌, ◌-◌, ◌*◌, ◌/◌, ◌^◌, ◌<◌, ◌≤◌, Bool, List, [], ◌∷◌, length, take, drop, sym, refl, ap, ◌∙◌, ap₂, arith, pow-add}
use Rattle.std.specs.List.{AllByRecursion}
use Rattle.std.proofs.ByRecursion.{All-append, All-take, All-drop}
use Rattle.jh.specs.Round.{sbox, first, second, boxed, paired, substitute, mix, turn, swapped, permute, round}
use Rattle.jh.specs.Inverse.{unsbox, unfirst, unsecond, unsubstitute, unmix, merge, unpermute, unround}
use Rattle.jh.proofs.Places.{Fours, none, more, fours, length_fours, boxed_fours, paired_fours, front, back}
use Rattle.jh.proofs.Undone.{Twos, empty, two, twos, length_permute, permute_undone, unpermute_undone, unpermute_fours}
use Rattle.jh.proofs.Tables.{box_at, pair_at}

abbrev pub Small : List ℕ → Type 0
Small = AllByRecursion (λ a. a < 16)

-- ---- the S-box layer

boxed_undone : (f g : Bool → ℕ → ℕ) → ((c : Bool) (a : ℕ) → a < 16 → g c (f c a) ≡ a)
    → (cs : List Bool) (xs : List ℕ) → length cs ≡ length xs → Small xs → boxed g cs (boxed f cs xs) ≡ xs
boxed_undone f g h [] [] e s = refl
boxed_undone f g h [] (a ∷ xs) e s = absurd (let no : ⊥ = omega arith in no)
boxed_undone f g h (c ∷ cs) [] e s = refl
boxed_undone f g h (c ∷ cs) (a ∷ xs) e s =
    ap₂ (λ (x : ℕ) (ys : List ℕ). x ∷ ys) (h c a s.0) (boxed_undone f g h cs xs (omega arith) s.1)

pub boxed_small : (f : Bool → ℕ → ℕ) → ((c : Bool) (a : ℕ) → a < 16 → f c a < 16) → (cs : List Bool) (xs : List ℕ) → Small xs → Small (boxed f cs xs)
boxed_small f h [] xs s = tt
boxed_small f h (c ∷ cs) [] s = tt
boxed_small f h (c ∷ cs) (a ∷ xs) s = (h c a s.0, boxed_small f h cs xs s.1)

pub substitute_small : (cs : List Bool) (xs : List ℕ) → Small xs → Small (substitute cs xs)
substitute_small = boxed_small sbox (λ c a h. (box_at c a h).forth)

pub unsubstitute_small : (cs : List Bool) (xs : List ℕ) → Small xs → Small (unsubstitute cs xs)
unsubstitute_small = boxed_small unsbox (λ c a h. (box_at c a h).back)

-- ---- L on each pair

-- two functions on pairs of elements give elements
abbrev Keeps : (ℕ → ℕ → ℕ) → (ℕ → ℕ → ℕ) → Type 0
Keeps left right = (a b : ℕ) → a < 16 → b < 16 → (left a b < 16) × (right a b < 16)

paired_undone : (f g f' g' : ℕ → ℕ → ℕ) → ((a b : ℕ) → a < 16 → b < 16 → (f' (f a b) (g a b) ≡ a) × (g' (f a b) (g a b) ≡ b))
    → {xs : List ℕ} {m : ℕ} → Twos xs m → Small xs → paired f' g' (paired f g xs) ≡ xs
paired_undone f g f' g' h empty s = refl
paired_undone f g f' g' h (two {a} {b} t) s =
    let p = h a b s.0 s.1.0 in
    let q = paired_undone f g f' g' h t s.1.1 in
    λ i. p.0 i ∷ (p.1 i ∷ q i)

paired_small : (f g : ℕ → ℕ → ℕ) → Keeps f g → {xs : List ℕ} {m : ℕ} → Twos xs m → Small xs → Small (paired f g xs)
paired_small f g h empty s = tt
paired_small f g h (two {a} {b} t) s = let p = h a b s.0 s.1.0 in (p.0, (p.1, paired_small f g h t s.1.1))

pub mix_small : {xs : List ℕ} {m : ℕ} → Twos xs m → Small xs → Small (mix xs)
mix_small = paired_small first second (λ a b h k. let p = pair_at a b h k in (p.forth_first, p.forth_second))

pub unmix_small : {xs : List ℕ} {m : ℕ} → Twos xs m → Small xs → Small (unmix xs)
unmix_small = paired_small unfirst unsecond (λ a b h k. let p = pair_at a b h k in (p.back_first, p.back_second))

pairs_of : {xs : List ℕ} {m : ℕ} → Fours xs m → Twos xs (2 * m)
pairs_of {xs} {m} f = twos (2 * m) xs (let e = length_fours f in omega arith)

-- ---- P_d keeps elements

front_small : {xs : List ℕ} {m : ℕ} → Fours xs m → Small xs → Small (front xs)
front_small none s = tt
front_small (more f) s = (s.0, (s.1.1.1.0, front_small f s.1.1.1.1))

back_small : {xs : List ℕ} {m : ℕ} → Fours xs m → Small xs → Small (back xs)
back_small none s = tt
back_small (more f) s = (s.1.1.0, (s.1.0, back_small f s.1.1.1.1))

pub permute_small : {xs : List ℕ} {m : ℕ} → Fours xs m → Small xs → Small (permute xs)
permute_small {xs} f s = All-append (λ a. a < 16) (front xs) (back xs) (front_small f s) (back_small f s)

swapped_small : (xs : List ℕ) → Small xs → Small (swapped xs)
swapped_small [] s = tt
swapped_small (a ∷ []) s = tt
swapped_small (a ∷ (b ∷ xs)) s = (s.1.0, (s.0, swapped_small xs s.1.1))

merge_small : (xs ys : List ℕ) → Small xs → Small ys → Small (merge xs ys)
merge_small [] ys s t = tt
merge_small (x ∷ xs) [] s t = tt
merge_small (x ∷ xs) (y ∷ ys) s t = (s.0, (t.0, merge_small xs ys s.1 t.1))

turn_small : (xs : List ℕ) → Small xs → Small (turn xs)
turn_small [] s = tt
turn_small (a ∷ []) s = tt
turn_small (a ∷ (b ∷ [])) s = tt
turn_small (a ∷ (b ∷ (c ∷ []))) s = tt
turn_small (a ∷ (b ∷ (c ∷ (d ∷ xs)))) s = (s.0, (s.1.0, (s.1.1.1.0, (s.1.1.0, turn_small xs s.1.1.1.1))))

pub unpermute_small : (xs : List ℕ) → Small xs → Small (unpermute xs)
unpermute_small xs s =
    let h : ℕ = length xs / 2 in
    turn_small (merge (take h xs) (swapped (drop h xs)))
    (merge_small (take h xs) (swapped (drop h xs)) (All-take (λ a. a < 16) h xs s) (swapped_small (drop h xs) (All-drop (λ a. a < 16) h xs s)))

-- ---- a whole round

module _ {cs : List Bool} {xs : List ℕ} {m : ℕ} (fc : Fours cs m) (fx : Fours xs m) (s : Small xs) where
  boxes : Fours (substitute cs xs) m
  boxes = boxed_fours sbox fc fx

  boxes_small : Small (substitute cs xs)
  boxes_small = substitute_small cs xs s

  same_long : length cs ≡ length xs
  same_long = length_fours fc ∙ sym (length_fours fx)

  pub round_undone : unround cs (round cs xs) ≡ xs
  round_undone =
      ap (λ (ys : List ℕ). unsubstitute cs (unmix ys)) (permute_undone (mix (substitute cs xs)) m (paired_fours first second boxes))
      ∙ ap (unsubstitute cs) (paired_undone first second unfirst unsecond (λ a b h k. let p = pair_at a b h k in (p.undone_first, p.undone_second)) (pairs_of boxes) boxes_small)
      ∙ boxed_undone sbox unsbox (λ c a h. (box_at c a h).undone) cs xs same_long s

  pub round_long : Fours (round cs xs) m
  round_long = fours m (round cs xs) (length_permute (mix (substitute cs xs)) m (paired_fours first second boxes))

  pub round_small : Small (round cs xs)
  round_small = permute_small (paired_fours first second boxes) (mix_small (pairs_of boxes) boxes_small)

  -- the way back
  moved : Fours (unpermute xs) m
  moved = unpermute_fours xs m (length_fours fx)

  moved_small : Small (unpermute xs)
  moved_small = unpermute_small xs s

  parted : Fours (unmix (unpermute xs)) m
  parted = paired_fours unfirst unsecond moved

  parted_small : Small (unmix (unpermute xs))
  parted_small = unmix_small (pairs_of moved) moved_small

  pub unround_undone : round cs (unround cs xs) ≡ xs
  unround_undone =
      ap (λ (ys : List ℕ). permute (mix ys)) (boxed_undone unsbox sbox (λ c a h. (box_at c a h).redone) cs (unmix (unpermute xs)) (length_fours fc ∙ sym (length_fours parted)) parted_small)
      ∙ ap permute (paired_undone unfirst unsecond first second (λ a b h k. let p = pair_at a b h k in (p.redone_first, p.redone_second)) (pairs_of moved) moved_small)
      ∙ unpermute_undone xs m (length_fours fx)

  pub unround_long : Fours (unround cs xs) m
  unround_long = boxed_fours unsbox fc parted

  pub unround_small : Small (unround cs xs)
  unround_small = unsubstitute_small cs (unmix (unpermute xs)) parted_small

-- 2^d as fours
pub fours_of : (d : ℕ) → 2 ≤ d → 2 ^ d ≡ 4 * 2 ^ (d - 2)
fours_of d h = let e : d ≡ 2 + (d - 2) = omega arith in ap (λ (n : ℕ). 2 ^ n) e ∙ pow-add 2 2 (d - 2)
