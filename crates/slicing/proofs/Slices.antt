-- One round on the sliced form is one round of the definition, forth and back.
use Rattle.std.proofs.Common.{◌≡◌, ℕ, zero, suc, ◌+◌, ◌*◌, ◌/◌, ◌%◌, ◌^◌, ◌<◌, Bool, false, List, [], ◌∷◌, length, get_or, sym, refl, ap, ◌∙◌, subst, ap₂, arith, lit<}
use lib.Bits.{bit_xor, xor_assoc, xor_self, xor_zero_r}
use Rattle.std.proofs.lemmas.List.{ext_get_or}
use Rattle.jh.specs.Bit.{element}
use Rattle.jh.specs.Round.{sbox, first, second, round}
use Rattle.jh.specs.Inverse.{unsbox, unfirst, unsecond}
use Rattle.jh.proofs.Places.{Fours, box_at, round_even, round_odd}
use Rattle.jh.proofs.Tables.{box_at as box_laws, pair_at}
use Rattle.jh.proofs.Rounds.{Small}
use Rattle.slicing.specs.Places.{place, Lies}
use Rattle.slicing.proofs.Turns.{left_place, right_place, place_below, swap_below}

pub element_same : {a b c d a' b' c' d' : Bool} → a ≡ a' → b ≡ b' → c ≡ c' → d ≡ d' → element a b c d ≡ element a' b' c' d'
element_same p q r s = λ i. element (p i) (q i) (r i) (s i)

-- ---- a round

-- a member of the pair i after the S-boxes and L
abbrev pub mixed : (ℕ → ℕ → ℕ) → (ℕ → Bool) → (ℕ → Bool) → (ℕ → ℕ) → (ℕ → ℕ) → ℕ → ℕ
mixed member ce co even odd i = member (sbox (ce i) (even i)) (sbox (co i) (odd i))

module _ {s : ℕ} (hs : s < 7) {cs : List Bool} {xs : List ℕ} (fc : Fours cs 64) (fx : Fours xs 64)
    {ce co : ℕ → Bool} {even odd : ℕ → ℕ} (lc : Lies false s cs ce co) (lx : Lies 0 s xs even odd) where
  pub sliced_round : Lies 0 (suc s % 7) (round cs xs) (mixed first ce co even odd) (λ i. mixed second ce co even odd (bit_xor i (2 ^ s)))
  sliced_round = record {
    evens = λ i h.
        let b : (p : ℕ) → ℕ = box_at cs xs in
        ap₂ first (ap₂ sbox (lc.evens i h) (lx.evens i h)) (ap₂ sbox (lc.odds i h) (lx.odds i h))
        ∙ ap (λ (p : ℕ). first (b (2 * p)) (b (2 * p + 1))) (sym (left_place s hs i h))
        ∙ sym (round_even fc fx (place (suc s % 7) i) (place_below s hs i h));
    odds = λ i h.
        let b : (p : ℕ) → ℕ = box_at cs xs in
        let j : ℕ = bit_xor i (2 ^ s) in
        let g : j < 128 = swap_below s hs i h in
        ap₂ second (ap₂ sbox (lc.evens j g) (lx.evens j g)) (ap₂ sbox (lc.odds j g) (lx.odds j g))
        ∙ ap (λ (p : ℕ). second (b (2 * p)) (b (2 * p + 1))) (sym (right_place s hs i h))
        ∙ sym (round_odd fc fx (place (suc s % 7) i) (place_below s hs i h));
  }

-- ---- and back

-- a member of the pair i before them
abbrev pub parted : (ℕ → ℕ → ℕ) → (ℕ → Bool) → (ℕ → ℕ) → (ℕ → ℕ) → ℕ → ℕ
parted member c even odd i = unsbox (c i) (member (even i) (odd i))

small_at : (xs : List ℕ) → Small xs → (p : ℕ) → get_or xs p 0 < 16
small_at [] s p = lit< tt
small_at (a ∷ xs) s zero = s.0
small_at (a ∷ xs) s (suc p) = small_at xs s.1 p

module _ {s : ℕ} (hs : s < 7) {cs : List Bool} {xs : List ℕ} (fc : Fours cs 64) (fx : Fours xs 64) (n : Small xs)
    {ce co : ℕ → Bool} {even odd : ℕ → ℕ} (lc : Lies false s cs ce co) (lx : Lies 0 (suc s % 7) (round cs xs) even odd) where
  abbrev boxed : ℕ → ℕ
  boxed = box_at cs xs

  even_was : (i : ℕ) → i < 128 → even i ≡ first (boxed (2 * place s i)) (boxed (2 * place s i + 1))
  even_was i h =
      lx.evens i h ∙ round_even fc fx (place (suc s % 7) i) (place_below s hs i h)
      ∙ ap (λ (p : ℕ). first (boxed (2 * p)) (boxed (2 * p + 1))) (left_place s hs i h)

  odd_was : (i : ℕ) → i < 128 → odd (bit_xor i (2 ^ s)) ≡ second (boxed (2 * place s i)) (boxed (2 * place s i + 1))
  odd_was i h =
      let w : ℕ = 2 ^ s in
      let j : ℕ = bit_xor i w in
      let g : j < 128 = swap_below s hs i h in
      let twice : bit_xor j w ≡ i = xor_assoc i w w ∙ ap (bit_xor i) (xor_self w) ∙ xor_zero_r i in
      lx.odds j g ∙ round_odd fc fx (place (suc s % 7) j) (place_below s hs j g)
      ∙ ap (λ (p : ℕ). second (boxed (2 * p)) (boxed (2 * p + 1))) (right_place s hs j g ∙ ap (place s) twice)

  boxed_small : (p : ℕ) → boxed p < 16
  boxed_small p = (box_laws (get_or cs p false) (get_or xs p 0) (small_at xs n p)).forth

  pub sliced_back : Lies 0 s xs (parted unfirst ce even (λ i. odd (bit_xor i (2 ^ s)))) (parted unsecond co even (λ i. odd (bit_xor i (2 ^ s))))
  sliced_back = record {
    evens = λ i h.
        let p : ℕ = 2 * place s i in
        ap₂ unsbox (lc.evens i h) (ap₂ unfirst (even_was i h) (odd_was i h) ∙ (pair_at (boxed p) (boxed (p + 1)) (boxed_small p) (boxed_small (p + 1))).undone_first)
        ∙ (box_laws (get_or cs p false) (get_or xs p 0) (small_at xs n p)).undone;
    odds = λ i h.
        let p : ℕ = 2 * place s i in
        ap₂ unsbox (lc.odds i h) (ap₂ unsecond (even_was i h) (odd_was i h) ∙ (pair_at (boxed p) (boxed (p + 1)) (boxed_small p) (boxed_small (p + 1))).undone_second)
        ∙ (box_laws (get_or cs (p + 1) false) (get_or xs (p + 1) 0) (small_at xs n (p + 1))).undone;
  }

-- ---- what lies unturned in the sliced form is known from it

module _ (xs ys : List ℕ) (m : length xs ≡ 256) (n : length ys ≡ 256) {even odd : ℕ → ℕ} (lx : Lies 0 0 xs even odd) (ly : Lies 0 0 ys even odd) where
  same_at : (p : ℕ) → p < 256 → get_or xs p 0 ≡ get_or ys p 0
  same_at p h = by (p % 2) refl
    where
      by : (b : ℕ) → p % 2 ≡ b → get_or xs p 0 ≡ get_or ys p 0
      by zero e =
          let i : p / 2 < 128 = omega arith in
          let at : 2 * place 0 (p / 2) ≡ p = omega arith in
          subst (λ (p : ℕ). get_or xs p 0 ≡ get_or ys p 0) at (sym (lx.evens (p / 2) i) ∙ ly.evens (p / 2) i)
      by (suc b) e =
          let i : p / 2 < 128 = omega arith in
          let at : 2 * place 0 (p / 2) + 1 ≡ p = omega arith in
          subst (λ (p : ℕ). get_or xs p 0 ≡ get_or ys p 0) at (sym (lx.odds (p / 2) i) ∙ ly.odds (p / 2) i)

  pub lies_same : xs ≡ ys
  lies_same = ext_get_or 0 xs ys (m ∙ sym n) (λ p l. same_at p (omega arith))
