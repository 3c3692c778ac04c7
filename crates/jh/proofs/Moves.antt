-- P_d and its inverse as loops write them, four elements at a time.
use Rattle.std.proofs.Common.{◌≡◌, ℕ, zero, suc, ◌+◌, ◌-◌, ◌*◌, ◌/◌, ◌%◌, ◌<◌, ◌≤◌, List, ◌++◌, length, get_or, take, drop, set, sym, refl, ap, ◌∙◌, ap₂, le_of_suc-le-suc, not-suc-le-zero, arith}
use Rattle.std.proofs.lemmas.List.{length-take-le, get_or-drop, get_or-take, length-drop, length-append, length-set, set-append_left, set-append_right, take-append-drop}
use Rattle.byte_strings.proofs.Over.{over, over_all, over_more}
use Rattle.jh.specs.Round.{turn, swapped, permute}
use Rattle.jh.specs.Inverse.{merge, unpermute}
use Rattle.jh.proofs.Places.{Fours, fours, length_fours, front, back, front_long, back_long, front_at, back_at, four_at, two_at}
use Rattle.jh.proofs.Undone.{Twos, empty, two, twos, unpermute_fours}
use Rattle.jh.proofs.Layers.{two_more}

at_same : (xs : List ℕ) {j k : ℕ} → j ≡ k → get_or xs j 0 ≡ get_or xs k 0
at_same xs e = ap (λ (x : ℕ). get_or xs x 0) e

-- ---- P_d

-- the halves, each with the first i pairs moved in
abbrev pub moving : ℕ → ℕ → List ℕ → List ℕ
moving h i xs = over (2 * i) (front xs) (take h xs) ++ over (2 * i) (back xs) (drop h xs)

pub moving_none : (h : ℕ) (xs : List ℕ) → xs ≡ moving h 0 xs
moving_none h xs = sym (take-append-drop h xs)

length_over : (n : ℕ) (s d : List ℕ) → length s ≡ length d → n ≤ length d → length (over n s d) ≡ length d
length_over n s d e h =
    omega (arith, length-append (take n s) (drop n d), length-take-le n s (let b : n ≤ length s = omega arith in b), length-drop n d)

-- two writes in the first part of a row, or in the second
two_left : (us vs : List ℕ) (k l v w : ℕ) → k < length us → l < length us → set (set (us ++ vs) k v) l w ≡ set (set us k v) l w ++ vs
two_left us vs k l v w h g =
    ap (λ (ys : List ℕ). set ys l w) (set-append_left us vs k v h)
    ∙ set-append_left (set us k v) vs l w (let e = length-set us k v in omega arith)

two_right : (us vs : List ℕ) (n k l v w : ℕ) → length us ≡ n → set (set (us ++ vs) (n + k) v) (n + l) w ≡ us ++ set (set vs k v) l w
two_right us vs n k l v w e =
    let p : n + k - n ≡ k = omega arith in
    let q : n + l - n ≡ l = omega arith in
    ap (λ (ys : List ℕ). set ys (n + l) w) (set-append_right us vs n (n + k) v e (omega arith) ∙ ap (λ (j : ℕ). us ++ set vs j v) p)
    ∙ set-append_right us (set vs k v) n (n + l) w e (omega arith) ∙ ap (λ (j : ℕ). us ++ set (set vs k v) j w) q

module _ (n : ℕ) (xs : List ℕ) (four : n % 4 ≡ 0) (long : length xs ≡ n) where
  all_fours : Fours xs (n / 4)
  all_fours = fours (n / 4) xs (omega arith)

  fronts : length (front xs) ≡ length (take (n / 2) xs)
  fronts = let a = front_long all_fours in let b = length-take-le (n / 2) xs (omega arith) in omega arith

  backs : length (back xs) ≡ length (drop (n / 2) xs)
  backs = let a = back_long all_fours in let b = length-drop (n / 2) xs in omega arith

  pub moving_all : moving (n / 2) (n / 4) xs ≡ permute xs
  moving_all =
      let a = front_long all_fours in
      let b = back_long all_fours in
      ap₂ ◌++◌ (over_all (2 * (n / 4)) (front xs) (take (n / 2) xs) a (sym fronts ∙ a)) (over_all (2 * (n / 4)) (back xs) (drop (n / 2) xs) b (sym backs ∙ b))

  module _ (i : ℕ) (h : i < n / 4) where
    front_even : get_or xs (4 * i) 0 ≡ get_or (front xs) (2 * i) 0
    front_even = sym (front_at all_fours i h).0

    front_odd : get_or xs (4 * i + 3) 0 ≡ get_or (front xs) (2 * i + 1) 0
    front_odd = at_same xs (omega arith) ∙ sym (front_at all_fours i h).1 ∙ at_same (front xs) (omega arith)

    back_even : get_or xs (4 * i + 2) 0 ≡ get_or (back xs) (2 * i) 0
    back_even = at_same xs (omega arith) ∙ sym (back_at all_fours i h).0

    back_odd : get_or xs (4 * i + 1) 0 ≡ get_or (back xs) (2 * i + 1) 0
    back_odd = at_same xs (omega arith) ∙ sym (back_at all_fours i h).1 ∙ at_same (back xs) (omega arith)

    -- the halves before the turn
    abbrev us : List ℕ
    us = over (2 * i) (front xs) (take (n / 2) xs)

    abbrev vs : List ℕ
    vs = over (2 * i) (back xs) (drop (n / 2) xs)

    front_step : set (set us (2 * i) (get_or xs (4 * i) 0)) (2 * i + 1) (get_or xs (4 * i + 3) 0) ≡ over (2 * (i + 1)) (front xs) (take (n / 2) xs)
    front_step =
        let f = front_long all_fours in
        let e = fronts in
        ap₂ (λ (x y : ℕ). set (set us (2 * i) x) (2 * i + 1) y) front_even front_odd ∙ two_more i (front xs) (take (n / 2) xs) fronts (omega arith)

    back_step : set (set vs (2 * i) (get_or xs (4 * i + 2) 0)) (2 * i + 1) (get_or xs (4 * i + 1) 0) ≡ over (2 * (i + 1)) (back xs) (drop (n / 2) xs)
    back_step =
        let f = back_long all_fours in
        let e = backs in
        ap₂ (λ (x y : ℕ). set (set vs (2 * i) x) (2 * i + 1) y) back_even back_odd ∙ two_more i (back xs) (drop (n / 2) xs) backs (omega arith)

    front_over : (j : ℕ) → j ≤ n / 4 → length (over (2 * j) (front xs) (take (n / 2) xs)) ≡ n / 2
    front_over j l =
        let f = front_long all_fours in
        let e = fronts in
        length_over (2 * j) (front xs) (take (n / 2) xs) fronts (omega arith) ∙ (omega arith)

    pub moving_more : (ys : List ℕ) → ys ≡ moving (n / 2) i xs
        → set (set (set (set ys (2 * i) (get_or xs (4 * i) 0)) (2 * i + 1) (get_or xs (4 * i + 3) 0)) (n / 2 + 2 * i) (get_or xs (4 * i + 2) 0))
        (n / 2 + 2 * i + 1) (get_or xs (4 * i + 1) 0) ≡ moving (n / 2) (i + 1) xs
    moving_more ys row =
        let g = front_over i (omega arith) in
        let p : n / 2 + 2 * i + 1 ≡ n / 2 + (2 * i + 1) = omega arith in
        ap (λ (zs : List ℕ). set (set zs (n / 2 + 2 * i) (get_or xs (4 * i + 2) 0)) (n / 2 + 2 * i + 1) (get_or xs (4 * i + 1) 0))
        (ap (λ (zs : List ℕ). set (set zs (2 * i) (get_or xs (4 * i) 0)) (2 * i + 1) (get_or xs (4 * i + 3) 0)) row
        ∙ two_left us vs (2 * i) (2 * i + 1) (get_or xs (4 * i) 0) (get_or xs (4 * i + 3) 0) (omega arith) (omega arith)
        ∙ ap (λ (zs : List ℕ). zs ++ vs) front_step)
        ∙ ap (λ (k : ℕ). set (set (over (2 * (i + 1)) (front xs) (take (n / 2) xs) ++ vs) (n / 2 + 2 * i) (get_or xs (4 * i + 2) 0)) k (get_or xs (4 * i + 1) 0)) p
        ∙ two_right (over (2 * (i + 1)) (front xs) (take (n / 2) xs)) vs (n / 2) (2 * i) (2 * i + 1) (get_or xs (4 * i + 2) 0) (get_or xs (4 * i + 1) 0) (front_over (i + 1) (omega arith))
        ∙ ap (λ (zs : List ℕ). over (2 * (i + 1)) (front xs) (take (n / 2) xs) ++ zs) back_step

-- ---- the inverse of P_d

-- four elements of two halves, put together again
together : {us vs : List ℕ} {m : ℕ} → Twos us m → Twos vs m → (i : ℕ) → i < m
    → (get_or (turn (merge us (swapped vs))) (4 * i) 0 ≡ get_or us (2 * i) 0)
    × (get_or (turn (merge us (swapped vs))) (suc (4 * i)) 0 ≡ get_or vs (suc (2 * i)) 0)
    × (get_or (turn (merge us (swapped vs))) (suc (suc (4 * i))) 0 ≡ get_or vs (2 * i) 0)
    × (get_or (turn (merge us (swapped vs))) (suc (suc (suc (4 * i)))) 0 ≡ get_or us (suc (2 * i)) 0)
together empty empty i h = absurd (not-suc-le-zero h)
together (two t) (two u) zero h = (refl, refl, refl, refl)
together (two t) (two u) (suc i) h =
    let r = together t u i (le_of_suc-le-suc h) in
    (simp (four_at, two_at) r.0, simp (four_at, two_at) r.1, simp (four_at, two_at) r.2, simp (four_at, two_at) r.3)

module _ (n : ℕ) (xs : List ℕ) (four : n % 4 ≡ 0) (long : length xs ≡ n) where
  pub length_unpermute : length (unpermute xs) ≡ length xs
  length_unpermute = let e = length_fours (unpermute_fours xs (n / 4) (omega arith)) in omega arith

  module _ (i : ℕ) (h : i < n / 4) where
    half : length xs / 2 ≡ n / 2
    half = omega arith

    parts : (get_or (unpermute xs) (4 * i) 0 ≡ get_or (take (n / 2) xs) (2 * i) 0)
        × (get_or (unpermute xs) (suc (4 * i)) 0 ≡ get_or (drop (n / 2) xs) (suc (2 * i)) 0)
        × (get_or (unpermute xs) (suc (suc (4 * i))) 0 ≡ get_or (drop (n / 2) xs) (2 * i) 0)
        × (get_or (unpermute xs) (suc (suc (suc (4 * i)))) 0 ≡ get_or (take (n / 2) xs) (suc (2 * i)) 0)
    parts =
        let a = length-take-le (n / 2) xs (omega arith) in
        let b = length-drop (n / 2) xs in
        rw half (together (twos (n / 4) (take (n / 2) xs) (omega arith)) (twos (n / 4) (drop (n / 2) xs) (omega arith)) i h)

    at_0 : get_or xs (2 * i) 0 ≡ get_or (unpermute xs) (4 * i) 0
    at_0 = sym (parts.0 ∙ get_or-take (n / 2) xs (2 * i) 0 (omega arith))

    at_1 : get_or xs (n / 2 + 2 * i + 1) 0 ≡ get_or (unpermute xs) (4 * i + 1) 0
    at_1 = sym (at_same (unpermute xs) (omega arith) ∙ parts.1 ∙ get_or-drop (n / 2) xs (suc (2 * i)) 0 ∙ at_same xs (omega arith))

    at_2 : get_or xs (n / 2 + 2 * i) 0 ≡ get_or (unpermute xs) (4 * i + 2) 0
    at_2 = sym (at_same (unpermute xs) (omega arith) ∙ parts.2 ∙ get_or-drop (n / 2) xs (2 * i) 0)

    at_3 : get_or xs (2 * i + 1) 0 ≡ get_or (unpermute xs) (4 * i + 3) 0
    at_3 = sym (at_same (unpermute xs) (omega arith) ∙ parts.3 ∙ get_or-take (n / 2) xs (suc (2 * i)) 0 (omega arith) ∙ at_same xs (omega arith))

    pub gather_more : (ys : List ℕ) → ys ≡ over (4 * i) (unpermute xs) xs
        → set (set (set (set ys (4 * i) (get_or xs (2 * i) 0)) (4 * i + 1) (get_or xs (n / 2 + 2 * i + 1) 0)) (4 * i + 2) (get_or xs (n / 2 + 2 * i) 0))
        (4 * i + 3) (get_or xs (2 * i + 1) 0) ≡ over (4 * (i + 1)) (unpermute xs) xs
    gather_more ys row =
        let s : List ℕ = unpermute xs in
        let e = length_unpermute in
        let p : 4 * i + 1 + 1 ≡ 4 * i + 2 = omega arith in
        let q : 4 * i + 2 + 1 ≡ 4 * i + 3 = omega arith in
        let r : 4 * i + 3 + 1 ≡ 4 * (i + 1) = omega arith in
        (λ j. set (set (set (set (row j) (4 * i) (at_0 j)) (4 * i + 1) (at_1 j)) (4 * i + 2) (at_2 j)) (4 * i + 3) (at_3 j))
        ∙ ap (λ (zs : List ℕ). set (set (set zs (4 * i + 1) (get_or s (4 * i + 1) 0)) (4 * i + 2) (get_or s (4 * i + 2) 0)) (4 * i + 3) (get_or s (4 * i + 3) 0))
        (over_more (4 * i) s xs e (omega arith))
        ∙ ap (λ (zs : List ℕ). set (set zs (4 * i + 2) (get_or s (4 * i + 2) 0)) (4 * i + 3) (get_or s (4 * i + 3) 0))
        (over_more (4 * i + 1) s xs e (omega arith) ∙ ap (λ (k : ℕ). over k s xs) p)
        ∙ ap (λ (zs : List ℕ). set zs (4 * i + 3) (get_or s (4 * i + 3) 0)) (over_more (4 * i + 2) s xs e (omega arith) ∙ ap (λ (k : ℕ). over k s xs) q)
        ∙ over_more (4 * i + 3) s xs e (omega arith) ∙ ap (λ (k : ℕ). over k s xs) r
