-- By the rule of the sliced constants, each bit of C_r lies where the elements of round r lie.
-- What the rule does moves bits without reading them, so it is known from what it does to a list of places.
use Rattle.std.proofs.Common.{◌≡◌, ℕ, zero, suc, ◌+◌, ◌*◌, ◌/◌, ◌%◌, ◌^◌, ◌<◌, Bool, false, T, eqb, List, [], ◌∷◌, ◌++◌, map, length, get_or, take, drop, sym, refl, ap, ◌∙◌, subst, ap₂, mod-lt, arith, lit<, eqb→eq}
use native.Mathlib.Nat.{mod-mod}
use lib.Bits.{bit_xor, xor_assoc, xor_zero_r}
use Rattle.std.specs.List.{range_with_len}
use Rattle.std.proofs.lemmas.List.{map-append, length-map, get_or-map, take-map, drop-map}
use Rattle.std.proofs.lemmas.List.FromFn.{fill_by_all}
use Rattle.jh.specs.Round.{turn, evens, odds, swapped}
use Rattle.jh.specs.Inverse.{merge, unpermute}
use Rattle.jh.specs.Constants.{constant}
use Rattle.jh.specs.Permutation.{bits}
use Rattle.jh.proofs.Below.{below, below_at}
use Rattle.jh.proofs.Places.{length_fours, two_at}
use Rattle.jh.proofs.Whole.{bits_fours}
use Rattle.slicing.specs.Places.{place, Lies}
use Rattle.slicing.specs.Constants.{moved, runs_exchanged, exchanged, even_part, odd_part, even_word, odd_word}
use Rattle.slicing.proofs.Turns.{equal_each, place_below, swap_below, turned, crossed}

-- ---- what moves the members of a list moves what a function makes of them

module _ (f : ℕ → Bool) where
  turn_map : (xs : List ℕ) → turn (map f xs) ≡ map f (turn xs)
  turn_map [] = refl
  turn_map (a ∷ []) = refl
  turn_map (a ∷ (b ∷ [])) = refl
  turn_map (a ∷ (b ∷ (c ∷ []))) = refl
  turn_map (a ∷ (b ∷ (c ∷ (d ∷ xs)))) = ap (λ (ys : List Bool). f a ∷ (f b ∷ (f d ∷ (f c ∷ ys)))) (turn_map xs)

  merge_map : (xs ys : List ℕ) → merge (map f xs) (map f ys) ≡ map f (merge xs ys)
  merge_map [] ys = refl
  merge_map (x ∷ xs) [] = refl
  merge_map (x ∷ xs) (y ∷ ys) = ap (λ (zs : List Bool). f x ∷ (f y ∷ zs)) (merge_map xs ys)

  swapped_map : (xs : List ℕ) → swapped (map f xs) ≡ map f (swapped xs)
  swapped_map [] = refl
  swapped_map (a ∷ []) = refl
  swapped_map (a ∷ (b ∷ xs)) = ap (λ (ys : List Bool). f b ∷ (f a ∷ ys)) (swapped_map xs)

  unpermute_map : (xs : List ℕ) → unpermute (map f xs) ≡ map f (unpermute xs)
  unpermute_map xs =
      let h : ℕ = length xs / 2 in
      ap (λ (n : ℕ). turn (merge (take (n / 2) (map f xs)) (swapped (drop (n / 2) (map f xs))))) (length-map xs f)
      ∙ ap₂ (λ (a b : List Bool). turn (merge a b)) (take-map f h xs) (ap swapped (drop-map f h xs) ∙ swapped_map (drop h xs))
      ∙ ap turn (merge_map (take h xs) (swapped (drop h xs)))
      ∙ turn_map (merge (take h xs) (swapped (drop h xs)))

  runs_map : (k n : ℕ) (xs : List ℕ) → runs_exchanged k n (map f xs) ≡ map f (runs_exchanged k n xs)
  runs_map zero n xs = refl
  runs_map (suc k) n xs =
      let a : List ℕ = take n (drop n xs) in
      let b : List ℕ = take n xs in
      let c : List ℕ = runs_exchanged k n (drop (2 * n) xs) in
      let first = ap (take n) (drop-map f n xs) ∙ take-map f n (drop n xs) in
      let second = take-map f n xs in
      let rest = ap (runs_exchanged k n) (drop-map f (2 * n) xs) ∙ runs_map k n (drop (2 * n) xs) in
      (λ i. first i ++ (second i ++ rest i)) ∙ sym (map-append f a (b ++ c) ∙ ap (λ (ys : List Bool). map f a ++ ys) (map-append f b c))

-- ---- the even-numbered members, and the odd-numbered ones

evens_at : (xs : List Bool) (i : ℕ) → get_or (evens xs) i false ≡ get_or xs (2 * i) false
evens_at [] i = refl
evens_at (a ∷ []) zero = refl
evens_at (a ∷ []) (suc i) = ap (λ (n : ℕ). get_or (a ∷ []) n false) (sym (two_at i))
evens_at (a ∷ (b ∷ xs)) zero = refl
evens_at (a ∷ (b ∷ xs)) (suc i) = evens_at xs i ∙ ap (λ (n : ℕ). get_or (a ∷ (b ∷ xs)) n false) (sym (two_at i))

odds_at : (xs : List Bool) (i : ℕ) → get_or (odds xs) i false ≡ get_or xs (2 * i + 1) false
odds_at [] i = refl
odds_at (a ∷ []) i = let e : suc (2 * i) ≡ 2 * i + 1 = omega arith in ap (λ (n : ℕ). get_or (a ∷ []) n false) e
odds_at (a ∷ (b ∷ xs)) zero = refl
odds_at (a ∷ (b ∷ xs)) (suc i) =
    let e : suc (suc (2 * i + 1)) ≡ 2 * suc i + 1 = omega arith in
    odds_at xs i ∙ ap (λ (n : ℕ). get_or (a ∷ (b ∷ xs)) n false) e

length_odds : (xs : List Bool) (n : ℕ) → length xs ≡ 2 * n → length (odds xs) ≡ n
length_odds [] n e = omega arith
length_odds (a ∷ []) n e = absurd (let no : ⊥ = omega arith in no)
length_odds (a ∷ (b ∷ xs)) zero e = absurd (let no : ⊥ = omega arith in no)
length_odds (a ∷ (b ∷ xs)) (suc n) e = ap suc (length_odds xs n (omega arith))

-- ---- a list by its places

positions : (xs : List Bool) (n : ℕ) → length xs ≡ n → xs ≡ map (λ p. get_or xs p false) (range_with_len 0 n)
positions xs n e = fill_by_all (λ p. get_or xs p false) xs n false e (λ k h. refl)

-- ---- the inverse of P_8: the pair i takes its first bit from the pair i turned right by 1, its second bit from its neighbour's

abbrev origins : List ℕ
origins = unpermute (range_with_len 0 256)

equal_below : (f g : ℕ → ℕ) → T (below 128 (λ i. eqb (f i) (g i))) → (i : ℕ) → i < 128 → f i ≡ g i
equal_below f g t i h = eqb→eq (f i) (g i) (below_at 128 (λ i. eqb (f i) (g i)) t i h)

module _ (xs : List Bool) (e : length xs ≡ 256) where
  abbrev at : ℕ → Bool
  at p = get_or xs p false

  unpermute_is : unpermute xs ≡ map at origins
  unpermute_is = ap unpermute (positions xs 256 e) ∙ unpermute_map at (range_with_len 0 256)

  length_unpermute : length (unpermute xs) ≡ 256
  length_unpermute = ap length unpermute_is ∙ length-map origins at

  unpermute_at : (p : ℕ) → p < 256 → get_or (unpermute xs) p false ≡ at (get_or origins p 0)
  unpermute_at p h = ap (λ (ys : List Bool). get_or ys p false) unpermute_is ∙ get_or-map at origins p 0 false h

  unpermute_even : (i : ℕ) → i < 128 → get_or (unpermute xs) (2 * i) false ≡ at (2 * place 1 i)
  unpermute_even i h =
      unpermute_at (2 * i) (omega arith) ∙ ap at (equal_below (λ i. get_or origins (2 * i) 0) (λ i. 2 * place 1 i) tt i h)

  unpermute_odd : (i : ℕ) → i < 128 → get_or (unpermute xs) (2 * i + 1) false ≡ at (2 * place 1 (bit_xor i 1) + 1)
  unpermute_odd i h =
      unpermute_at (2 * i + 1) (omega arith) ∙ ap at (equal_below (λ i. get_or origins (2 * i + 1) 0) (λ i. 2 * place 1 (bit_xor i 1) + 1) tt i h)

length_moved : (r : ℕ) (cs : List Bool) → length cs ≡ 256 → length (moved r cs) ≡ 256
length_moved zero cs e = e
length_moved (suc r) cs e = length_unpermute (moved r cs) (length_moved r cs e)

-- ---- runs of 2^s bits: the bit i comes from the place i xor 2^s

abbrev run_origins : ℕ → List ℕ
run_origins s = runs_exchanged (64 / 2 ^ s) (2 ^ s) (range_with_len 0 128)

module _ (s : ℕ) (hs : s < 7) (xs : List Bool) (e : length xs ≡ 128) where
  runs_is : runs_exchanged (64 / 2 ^ s) (2 ^ s) xs ≡ map (λ p. get_or xs p false) (run_origins s)
  runs_is = ap (runs_exchanged (64 / 2 ^ s) (2 ^ s)) (positions xs 128 e) ∙ runs_map (λ p. get_or xs p false) (64 / 2 ^ s) (2 ^ s) (range_with_len 0 128)

  run_long : length (run_origins s) ≡ 128
  run_long = eqb→eq (length (run_origins s)) 128 (below_at 7 (λ s. eqb (length (run_origins s)) 128) tt s hs)

  length_runs : length (runs_exchanged (64 / 2 ^ s) (2 ^ s) xs) ≡ 128
  length_runs = ap length runs_is ∙ length-map (run_origins s) (λ p. get_or xs p false) ∙ run_long

  runs_at : (i : ℕ) → i < 128 → get_or (runs_exchanged (64 / 2 ^ s) (2 ^ s) xs) i false ≡ get_or xs (bit_xor i (2 ^ s)) false
  runs_at i h =
      ap (λ (ys : List Bool). get_or ys i false) runs_is
      ∙ get_or-map (λ p. get_or xs p false) (run_origins s) i 0 false (subst (λ (n : ℕ). i < n) (sym run_long) h)
      ∙ ap (λ (p : ℕ). get_or xs p false)
      (equal_each (λ s i. get_or (run_origins s) i 0) (λ s i. bit_xor i (2 ^ s)) tt s hs i h)

seven : (r : ℕ) → r % 7 < 7
seven r = mod-lt r (lit< tt)

length_exchanged : (r : ℕ) (xs : List Bool) → length xs ≡ 128 → length (exchanged r xs) ≡ 128
length_exchanged zero xs e = e
length_exchanged (suc r) xs e = length_runs (r % 7) (seven r) (exchanged r xs) (length_exchanged r xs e)

-- the place from which r exchanges bring bit i
abbrev exchange_origin : ℕ → ℕ → ℕ
exchange_origin zero i = i
exchange_origin (suc r) i = exchange_origin r (bit_xor i (2 ^ (r % 7)))

exchange_below : (r i : ℕ) → i < 128 → exchange_origin r i < 128
exchange_below zero i h = h
exchange_below (suc r) i h = exchange_below r (bit_xor i (2 ^ (r % 7))) (swap_below (r % 7) (seven r) i h)

exchanged_at : (r : ℕ) (xs : List Bool) → length xs ≡ 128 → (i : ℕ) → i < 128 → get_or (exchanged r xs) i false ≡ get_or xs (exchange_origin r i) false
exchanged_at zero xs e i h = refl
exchanged_at (suc r) xs e i h =
    runs_at (r % 7) (seven r) (exchanged r xs) (length_exchanged r xs e) i h
    ∙ exchanged_at r xs e (bit_xor i (2 ^ (r % 7))) (swap_below (r % 7) (seven r) i h)

-- ---- both together

-- the pair whose second bit r moves bring to the pair i
abbrev move_origin : ℕ → ℕ → ℕ
move_origin zero i = i
move_origin (suc r) i = move_origin r (place 1 (bit_xor i 1))

next_turn : (r : ℕ) → suc (r % 7) % 7 ≡ suc r % 7
next_turn r = omega arith

-- an exchange before a move is an exchange after it
exchange_moved : (r i : ℕ) → i < 128 → place 1 (bit_xor (exchange_origin r (bit_xor i (2 ^ (r % 7)))) 1) ≡ exchange_origin r (place 1 i)
exchange_moved zero i h = ap (place 1) (xor_assoc i 1 1 ∙ xor_zero_r i)
exchange_moved (suc r) i h =
    let s : ℕ = r % 7 in
    let w : ℕ → ℕ = λ t. bit_xor i (2 ^ t) in
    exchange_moved r (w (suc r % 7)) (swap_below (suc r % 7) (seven (suc r)) i h)
    ∙ ap (λ (t : ℕ). exchange_origin r (place 1 (w t))) (sym (next_turn r))
    ∙ ap (exchange_origin r) (crossed s (seven r) i h)

origin_place : (r i : ℕ) → i < 128 → move_origin r (exchange_origin r i) ≡ place (r % 7) i
origin_place zero i h = omega arith
origin_place (suc r) i h =
    ap (move_origin r) (exchange_moved r i h)
    ∙ origin_place r (place 1 i) (place_below 0 (lit< tt) i h)
    ∙ turned (r % 7) (seven r) i h ∙ ap (λ (s : ℕ). place s i) (next_turn r)

module _ (cs : List Bool) (e : length cs ≡ 256) where
  moved_even : (r i : ℕ) → i < 128 → get_or (moved r cs) (2 * i) false ≡ get_or cs (2 * place (r % 7) i) false
  moved_even zero i h = let p : 2 * i ≡ 2 * place 0 i = omega arith in ap (λ (p : ℕ). get_or cs p false) p
  moved_even (suc r) i h =
      unpermute_even (moved r cs) (length_moved r cs e) i h ∙ moved_even r (place 1 i) (place_below 0 (lit< tt) i h)
      ∙ ap (λ (p : ℕ). get_or cs (2 * p) false) (turned (r % 7) (seven r) i h ∙ ap (λ (s : ℕ). place s i) (next_turn r))

  moved_odd : (r i : ℕ) → i < 128 → get_or (moved r cs) (2 * i + 1) false ≡ get_or cs (2 * move_origin r i + 1) false
  moved_odd zero i h = refl
  moved_odd (suc r) i h =
      unpermute_odd (moved r cs) (length_moved r cs e) i h
      ∙ moved_odd r (place 1 (bit_xor i 1)) (place_below 0 (lit< tt) (bit_xor i 1) (swap_below 0 (lit< tt) i h))

  rule_lies : (r : ℕ) → Lies false (r % 7) cs (λ i. get_or (even_part r cs) i false) (λ i. get_or (odd_part r cs) i false)
  rule_lies r = record {
    evens = λ i h. evens_at (moved r cs) i ∙ moved_even r i h;
    odds = λ i h.
        let j : ℕ = exchange_origin r i in
        let g : j < 128 = exchange_below r i h in
        exchanged_at r (odds (moved r cs)) (length_odds (moved r cs) 128 (length_moved r cs e)) i h
        ∙ odds_at (moved r cs) j ∙ moved_odd r j g
        ∙ ap (λ (p : ℕ). get_or cs (2 * p + 1) false) (origin_place r i h);
  }

  -- after r mod 7 steps of the rule the bits lie as after r
  rule_again : (r i : ℕ) → i < 128
      → (get_or (even_part (r % 7) cs) i false ≡ get_or (even_part r cs) i false) × (get_or (odd_part (r % 7) cs) i false ≡ get_or (odd_part r cs) i false)
  rule_again r i h =
      let a = rule_lies (r % 7) in
      let b = rule_lies r in
      let m = mod-mod r 7 in (
        a.evens i h ∙ ap (λ (s : ℕ). get_or cs (2 * place s i) false) m ∙ sym (b.evens i h),
        a.odds i h ∙ ap (λ (s : ℕ). get_or cs (2 * place s i + 1) false) m ∙ sym (b.odds i h),
      )

-- ---- the two words of the sliced constant of round r

pub constant_lies : (r : ℕ) → Lies false (r % 7) (bits (constant r)) (λ i. get_or (even_word r) i false) (λ i. get_or (odd_word r) i false)
unfolding even_word odd_word
constant_lies r = rule_lies (bits (constant r)) (length_fours (bits_fours r)) r

pub constant_again : (r i : ℕ) → i < 128
    → (get_or (even_part (r % 7) (bits (constant r))) i false ≡ get_or (even_word r) i false) × (get_or (odd_part (r % 7) (bits (constant r))) i false ≡ get_or (odd_word r) i false)
unfolding even_word odd_word
constant_again r = rule_again (bits (constant r)) (length_fours (bits_fours r)) r
