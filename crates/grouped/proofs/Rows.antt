-- Rows that are read in chunks, and rows that are written pair by pair.
use Rattle.std.proofs.Common.{◌≡◌, ◌≢◌, ℕ, set, get_or-set_other, get_or-set_same, below_more, zero, suc, ◌+◌, ◌*◌, ◌/◌, ◌%◌, ◌<◌, List, [], length, get_or, drop, sym, ap, ◌∙◌, subst, inl, inr, arith, not-suc-le-zero, le_of_suc-le-suc}
use Rattle.std.proofs.Math.Nat.{mul-suc}
use Rattle.std.specs.Simd.{first_chunks}
use Rattle.std.proofs.ByRecursion.{All-get_or, All-from_get_or}
use Rattle.std.proofs.lemmas.List.{ext_get_or, length-set, get_or-take, get_or-drop}
use Rattle.std.proofs.lemmas.Bool.{cases_lt}
use Rattle.jh.specs.Row.{Row}
use Rattle.jh.specs.Round.{paired}
use Rattle.jh.proofs.Places.{paired_even, paired_odd}
use Rattle.jh.proofs.Layers.{length_paired}
use Rattle.grouped.specs.Pairs.{MakesPairs, EachPair}

-- element j of chunk i
chunk_at : (n k : ℕ) (xs : List ℕ) (i j : ℕ) → i < k → j < n → get_or (get_or (first_chunks n k xs) i []) j 0 ≡ get_or xs (n * i + j) 0
chunk_at n zero xs i j h l = absurd (not-suc-le-zero h)
chunk_at n (suc k) xs zero j h l = get_or-take n xs j 0 l ∙ ap (λ (t : ℕ). get_or xs t 0) (omega arith)
chunk_at n (suc k) xs (suc i) j h l =
    let e : n + (n * i + j) ≡ n * suc i + j = omega (arith, mul-suc n i) in
    chunk_at n k (drop n xs) i j (le_of_suc-le-suc h) l ∙ get_or-drop n xs (n * i + j) 0 ∙ ap (λ (t : ℕ). get_or xs t 0) e

pub in_chunk : (n k : ℕ) (xs : List ℕ) (chunks : List (List ℕ)) → chunks ≡ first_chunks n k xs
    → (i j p : ℕ) → i < k → j < n → n * i + j ≡ p → get_or (get_or chunks i []) j 0 ≡ get_or xs p 0
in_chunk n k xs chunks e i j p h l f =
    ap (λ (cs : List (List ℕ)). get_or (get_or cs i []) j 0) e ∙ chunk_at n k xs i j h l ∙ ap (λ (t : ℕ). get_or xs t 0) f

-- what holds at the places 2i and 2i + 1 below an even n holds at each place
by_pairs : (P : ℕ → Type 0) (n : ℕ) → n % 2 ≡ 0 → ((i : ℕ) → 2 * i + 1 < n → P (2 * i) × P (2 * i + 1)) → (k : ℕ) → k < n → P k
by_pairs P n e p k h =
    let both = p (k / 2) (omega arith) in
    elim (cases_lt (k % 2) 1) [
      | inl l ↦ subst P (let t : 2 * (k / 2) ≡ k = omega arith in t) both.0
      | inr l ↦ subst P (let t : 2 * (k / 2) + 1 ≡ k = omega arith in t) both.1
    ]

pub pairs_row : (makes : ℕ × ℕ → ℕ × ℕ → Type 0) → MakesPairs makes → (n : ℕ) (xs ys : List ℕ) → Row n xs → EachPair makes xs ys → Row n ys
pairs_row makes keeps n xs ys r p =
    let e : n % 2 ≡ 0 = ap (λ (m : ℕ). m % 2) (sym r.long) ∙ p.even in
    let long : length ys ≡ n = p.long ∙ r.long in
    let small : (k : ℕ) → k < n → get_or xs k 0 < 16 = λ k h. All-get_or (λ a. a < 16) xs k 0 (let l = r.long in omega arith) r.small in
    record {
      long = long;
      small =
          All-from_get_or (λ a. a < 16) ys 0
          (λ k h. by_pairs (λ k. get_or ys k 0 < 16) n e
          (λ i l. keeps (get_or xs (2 * i) 0) (get_or xs (2 * i + 1) 0) (get_or ys (2 * i) 0, get_or ys (2 * i + 1) 0) (small (2 * i) (omega arith)) (small (2 * i + 1) l)
          (p.each i (let m = r.long in omega arith))) k (omega arith));
    }

module _ (left right : ℕ → ℕ → ℕ) where
  pub paired_is : (xs ys : List ℕ) → EachPair (λ p r. r ≡ (left p.0 p.1, right p.0 p.1)) xs ys → ys ≡ paired left right xs
  paired_is xs ys p =
      let e = p.even in
      let n = length_paired left right xs e in
      ext_get_or 0 ys (paired left right xs) (p.long ∙ sym n)
      (λ k h. by_pairs (λ k. get_or ys k 0 ≡ get_or (paired left right xs) k 0) (length xs) e
      (λ i l. (ap (λ (r : ℕ × ℕ). r.0) (p.each i l) ∙ sym (paired_even left right xs i l), ap (λ (r : ℕ × ℕ). r.1) (p.each i l) ∙ sym (paired_odd left right xs i l)))
      k (let m = p.long in omega arith))

-- ---- a turn of the loop that writes pair i

module _ (makes : ℕ × ℕ → ℕ × ℕ → Type 0) (xs ys : List ℕ) (i : ℕ) (h : 2 * i + 1 < length ys) (r : ℕ × ℕ) where
  abbrev zs : List ℕ
  zs = set (set ys (2 * i) r.0) (2 * i + 1) r.1

  kept : (j : ℕ) → j < 2 * i → get_or zs j 0 ≡ get_or ys j 0
  kept j l =
      let p : j ≢ 2 * i + 1 = omega arith in
      let q : j ≢ 2 * i = omega arith in
      rw (get_or-set_other, get_or-set_other)

  written : (get_or zs (2 * i) 0, get_or zs (2 * i + 1) 0) ≡ r
  written =
      let p : 2 * i ≢ 2 * i + 1 = omega arith in
      let a : get_or zs (2 * i) 0 ≡ r.0 = get_or-set_other (set ys (2 * i) r.0) (2 * i + 1) (2 * i) r.1 0 p ∙ get_or-set_same ys (2 * i) r.0 0 (omega arith) in
      let b : get_or zs (2 * i + 1) 0 ≡ r.1 = get_or-set_same (set ys (2 * i) r.0) (2 * i + 1) r.1 0 (omega (arith, length-set ys (2 * i) r.0)) in
      λ j. (a j, b j)

  pub pair_more : makes (get_or xs (2 * i) 0, get_or xs (2 * i + 1) 0) r
      → ((k : ℕ) → k < i → makes (get_or xs (2 * k) 0, get_or xs (2 * k + 1) 0) (get_or ys (2 * k) 0, get_or ys (2 * k + 1) 0))
      → (k : ℕ) → k < i + 1 → makes (get_or xs (2 * k) 0, get_or xs (2 * k + 1) 0) (get_or zs (2 * k) 0, get_or zs (2 * k + 1) 0)
  pair_more here below =
      below_more _ _
      (λ k l. subst (makes (get_or xs (2 * k) 0, get_or xs (2 * k + 1) 0)) (λ j. (sym (kept (2 * k) (omega arith)) j, sym (kept (2 * k + 1) (omega arith)) j)) (below k l))
      (subst (makes (get_or xs (2 * i) 0, get_or xs (2 * i + 1) 0)) (sym written) here)
