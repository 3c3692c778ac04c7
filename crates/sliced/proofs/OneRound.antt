-- A round of the sliced form with the constant that the table has for it.
use mathlib.Core.Path.{◌≡◌, subst, ◌∙◌}
use mathlib.Core.Bool.{Bool, false}
use mathlib.Core.List.{List}
use Prim.Native.Nat.{ℕ, suc, ◌<◌, ◌+◌, ◌%◌, ◌^◌}
use native.Mathlib.Nat.{mod-eq_of_lt, mod-lt}
use native.Mathlib.Omega.{arith}
use lib.Bits.{bit_xor}
use lib.Dec.{lit<}
use Rattle.jh.specs.Round.{first, second}
use Rattle.jh.specs.Inverse.{unfirst, unsecond}
use Rattle.jh.specs.Constants.{constant}
use Rattle.jh.specs.Permutation.{bits, after}
use Rattle.jh.specs.Laws.{Elements}
use Rattle.jh.proofs.Places.{fours}
use Rattle.jh.proofs.Whole.{bits_fours, after_fours}
use Rattle.slicing.specs.Places.{Lies}
use Rattle.slicing.proofs.Rule.{constant_lies}
use Rattle.slicing.proofs.Slices.{mixed, parted, sliced_round, sliced_back}
use Rattle.words.specs.Bits.{word_bit}
use Rattle.sliced.specs.State.{Reached}
use Rattle.sliced.specs.declared.state.State.{State}
use Rattle.sliced_constants.specs.Constants.{IsConstant}
use Rattle.sliced_constants.specs.declared.RoundConstant.{RoundConstant}

-- the constant chooses each S-box as the definition does
chosen : (r : ℕ) → r < 42 → (k : RoundConstant) → IsConstant (r % 42) k → Lies false (r % 7) (bits (constant r)) (word_bit k.even) (word_bit k.odd)
chosen r h k e =
    let c : IsConstant r k = subst (λ (m : ℕ). IsConstant m k) (mod-eq_of_lt h) e in
    let l = constant_lies r in
    record { evens = λ i g. c.even i g ∙ l.evens i g; odds = λ i g. c.odd i g ∙ l.odds i g }

-- the same round and turn, counted by `suc` and by + 1
next : (r : ℕ) (P : ℕ → ℕ → Type 0) → P (suc (r % 7) % 7) (suc r) → P ((r + 1) % 7) (r + 1)
next r P p =
    let e : suc (r % 7) % 7 ≡ (r + 1) % 7 = omega arith in
    let f : suc r ≡ r + 1 = omega arith in
    subst (λ (t : ℕ). P t (r + 1)) e (subst (P (suc (r % 7) % 7)) f p)

next_back : (r : ℕ) (P : ℕ → ℕ → Type 0) → P ((r + 1) % 7) (r + 1) → P (suc (r % 7) % 7) (suc r)
next_back r P p =
    let e : (r + 1) % 7 ≡ suc (r % 7) % 7 = omega arith in
    let f : r + 1 ≡ suc r = omega arith in
    subst (λ (t : ℕ). P t (suc r)) e (subst (P ((r + 1) % 7)) f p)

module _ (r : ℕ) (h : r < 42) (k : RoundConstant) (e : IsConstant (r % 42) k) (q : List ℕ) (el : Elements 8 q) (even odd : ℕ → ℕ) where
  abbrev ce : ℕ → Bool
  ce = word_bit k.even

  abbrev co : ℕ → Bool
  co = word_bit k.odd

  -- the odd elements, exchanged
  abbrev crossed : (ℕ → ℕ) → ℕ → ℕ
  crossed odd i = odd (bit_xor i (2 ^ (r % 7)))

  pub round_forth : Lies 0 (r % 7) (after r q) even odd → Lies 0 ((r + 1) % 7) (after (r + 1) q) (mixed first ce co even odd) (crossed (mixed second ce co even odd))
  unfolding after
  round_forth l =
      let f = after_fours r (fours 64 q el.long) el.small in
      next r (λ t n. Lies 0 t (after n q) (mixed first ce co even odd) (crossed (mixed second ce co even odd)))
      (sliced_round (mod-lt r (lit< tt)) (bits_fours r) f.0 (chosen r h k e) l)

  pub round_back : Lies 0 ((r + 1) % 7) (after (r + 1) q) even odd → Lies 0 (r % 7) (after r q) (parted unfirst ce even (crossed odd)) (parted unsecond co even (crossed odd))
  unfolding after
  round_back l =
      let f = after_fours r (fours 64 q el.long) el.small in
      sliced_back (mod-lt r (lit< tt)) (bits_fours r) f.0 f.1 (chosen r h k e) (next_back r (λ t n. Lies 0 t (after n q) even odd) l)

-- the count of rounds as another term
pub recounted : (q : List ℕ) (s : State) (m n : ℕ) → m ≡ n → Reached m q s → Reached n q s
recounted q s m n e = subst (λ (m : ℕ). Reached m q s) e
