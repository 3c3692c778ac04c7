-- Rows of elements from layer to layer and from round to round, and the turns of the loops over the rounds.
use Rattle.std.proofs.Common.{◌≡◌, ℕ, suc, ◌+◌, ◌-◌, ◌*◌, ◌/◌, ◌%◌, ◌<◌, Bool, List, length, sym, refl, ap, ◌∙◌, subst, add-one, arith}
use Rattle.jh.specs.Row.{Row}
use Rattle.jh.specs.Round.{boxed, permute, round}
use Rattle.jh.specs.Constants.{constant, zeros}
use Rattle.jh.specs.Permutation.{bits, group, after}
use Rattle.jh.specs.Inverse.{unpermute, unround, before}
use Rattle.jh.proofs.Places.{fours, length_fours}
use Rattle.jh.proofs.Undone.{length_permute}
use Rattle.jh.proofs.Rounds.{boxed_small, permute_small, unpermute_small}
use Rattle.jh.proofs.Grouping.{length_group, group_small}
use Rattle.jh.proofs.Whole.{constant_fours, constant_undone, length_bits}
use Rattle.jh.proofs.Layers.{length_boxed}
use Rattle.jh.proofs.Moves.{length_unpermute}

-- as many constant bits as elements
pub same_long : (ks xs : List ℕ) → length xs ≡ 4 * length ks → length (bits ks) ≡ length xs
same_long ks xs e = length_bits ks ∙ sym e

-- ---- a row after a layer

module _ (n : ℕ) (xs ys : List ℕ) (r : Row n xs) where
  same_row : (zs : List ℕ) → ys ≡ zs → Row n zs → Row n ys
  same_row zs e = subst (Row n) (sym e)

  pub boxed_row : (box : Bool → ℕ → ℕ) → ((bit : Bool) (a : ℕ) → a < 16 → box bit a < 16) → (ks : List ℕ) → n ≡ 4 * length ks → ys ≡ boxed box (bits ks) xs → Row n ys
  boxed_row box keeps ks f e =
      same_row (boxed box (bits ks) xs) e
      record { long = length_boxed box (bits ks) xs (same_long ks xs (r.long ∙ f)) ∙ r.long; small = boxed_small box keeps (bits ks) xs r.small }

  pub permuted : n % 4 ≡ 0 → ys ≡ permute xs → Row n ys
  permuted f e =
      let four = fours (n / 4) xs (omega (arith, r.long)) in
      same_row (permute xs) e record { long = length_permute xs (n / 4) four ∙ (omega arith); small = permute_small four r.small }

  pub unpermuted : n % 4 ≡ 0 → ys ≡ unpermute xs → Row n ys
  unpermuted f e = same_row (unpermute xs) e record { long = length_unpermute n xs f r.long ∙ r.long; small = unpermute_small xs r.small }

-- ---- the round constants

pub constant_row : (r : ℕ) (ks : List ℕ) → ks ≡ constant r → Row 64 ks
constant_row r ks e = let f = constant_fours r in subst (Row 64) (sym e) record { long = length_fours f.0; small = f.1 }

pub constant_next : (r : ℕ) → round zeros (constant r) ≡ constant (r + 1)
constant_next r = ap constant (sym (add-one r))

-- ---- rounds forth

pub group_row : (x q : List ℕ) → q ≡ group x → Row 256 q
group_row x q e = subst (Row 256) (sym e) record { long = length_group x; small = group_small x }

pub after_none : (q : List ℕ) → q ≡ after 0 q
unfolding after
after_none q = refl

after_suc : (r : ℕ) (q : List ℕ) → round (bits (constant r)) (after r q) ≡ after (suc r) q
unfolding after
after_suc r q = refl

pub after_next : (r : ℕ) (q : List ℕ) → round (bits (constant r)) (after r q) ≡ after (r + 1) q
after_next r q = after_suc r q ∙ ap (λ (n : ℕ). after n q) (sym (add-one r))

-- ---- rounds back: r turns of n

left : (n r : ℕ) → r < n → n - r ≡ suc (n - (r + 1))
left n r h = omega arith

pub constant_back : (n r : ℕ) → r < n → unround zeros (constant (n - r)) ≡ constant (n - (r + 1))
constant_back n r h = ap (λ (k : ℕ). unround zeros (constant k)) (left n r h) ∙ constant_undone (n - (r + 1))

pub before_none : (q : List ℕ) → before 0 q ≡ q
unfolding before
before_none q = refl

before_suc : (r : ℕ) (q : List ℕ) → before (suc r) q ≡ before r (unround (bits (constant r)) q)
unfolding before
before_suc r q = refl

pub before_next : (n r : ℕ) (q : List ℕ) → r < n → before (n - (r + 1)) (unround (bits (constant (n - (r + 1)))) q) ≡ before (n - r) q
before_next n r q h = sym (ap (λ (k : ℕ). before k q) (left n r h) ∙ before_suc (n - (r + 1)) q)
