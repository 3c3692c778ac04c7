-- The S-boxes and L against their inverses, by tests that antt computes: one over a table's 16 entries, one over 256 pairs.
use Rattle.std.proofs.Common.{◌≡◌, ℕ, ◌<◌, Bool, true, false, ◌&&◌, T, eqb, ltb, eqb→eq, ltb→lt}
use Rattle.jh.specs.Round.{sbox, first, second}
use Rattle.jh.specs.Inverse.{unsbox, unfirst, unsecond}
use Rattle.jh.proofs.Below.{below, below_at, both_left, both_right}

-- an S-box at a
pub record Boxed (c : Bool) (a : ℕ) : Type 0 where
  pub undone : unsbox c (sbox c a) ≡ a
  pub redone : sbox c (unsbox c a) ≡ a
  pub forth : sbox c a < 16
  pub back : unsbox c a < 16

abbrev boxed_test : Bool → ℕ → Bool
boxed_test c a = eqb (unsbox c (sbox c a)) a && (eqb (sbox c (unsbox c a)) a && (ltb (sbox c a) 16 && ltb (unsbox c a) 16))

boxed_from : (c : Bool) (a : ℕ) → T (boxed_test c a) → Boxed c a
boxed_from c a t =
    let p : Bool = eqb (unsbox c (sbox c a)) a in
    let q : Bool = eqb (sbox c (unsbox c a)) a in
    let r : Bool = ltb (sbox c a) 16 in
    let s : Bool = ltb (unsbox c a) 16 in
    let u = both_right p (q && (r && s)) t in
    let v = both_right q (r && s) u in
    record {
      undone = eqb→eq (unsbox c (sbox c a)) a (both_left p (q && (r && s)) t);
      redone = eqb→eq (sbox c (unsbox c a)) a (both_left q (r && s) u);
      forth = ltb→lt (sbox c a) 16 (both_left r s v);
      back = ltb→lt (unsbox c a) 16 (both_right r s v);
    }

pub box_at : (c : Bool) (a : ℕ) → a < 16 → Boxed c a
box_at true a h = boxed_from true a (below_at 16 (boxed_test true) tt a h)
box_at false a h = boxed_from false a (below_at 16 (boxed_test false) tt a h)

-- L at the pair (a, b)
pub record Paired (a b : ℕ) : Type 0 where
  pub undone_first : unfirst (first a b) (second a b) ≡ a
  pub undone_second : unsecond (first a b) (second a b) ≡ b
  pub redone_first : first (unfirst a b) (unsecond a b) ≡ a
  pub redone_second : second (unfirst a b) (unsecond a b) ≡ b
  pub forth_first : first a b < 16
  pub forth_second : second a b < 16
  pub back_first : unfirst a b < 16
  pub back_second : unsecond a b < 16

abbrev undone_test : ℕ → ℕ → Bool
undone_test a b = eqb (unfirst (first a b) (second a b)) a && eqb (unsecond (first a b) (second a b)) b

abbrev redone_test : ℕ → ℕ → Bool
redone_test a b = eqb (first (unfirst a b) (unsecond a b)) a && eqb (second (unfirst a b) (unsecond a b)) b

abbrev forth_test : ℕ → ℕ → Bool
forth_test a b = ltb (first a b) 16 && ltb (second a b) 16

abbrev back_test : ℕ → ℕ → Bool
back_test a b = ltb (unfirst a b) 16 && ltb (unsecond a b) 16

pub pairs : (f : ℕ → ℕ → Bool) → T (below 16 (λ a. below 16 (f a))) → (a b : ℕ) → a < 16 → b < 16 → T (f a b)
pairs f t a b h k = below_at 16 (f a) (below_at 16 (λ x. below 16 (f x)) t a h) b k

pub pair_at : (a b : ℕ) → a < 16 → b < 16 → Paired a b
pair_at a b h k =
    let u : T (undone_test a b) = pairs undone_test tt a b h k in
    let r : T (redone_test a b) = pairs redone_test tt a b h k in
    let f : T (forth_test a b) = pairs forth_test tt a b h k in
    let g : T (back_test a b) = pairs back_test tt a b h k in
    record {
      undone_first = eqb→eq (unfirst (first a b) (second a b)) a (both_left (eqb (unfirst (first a b) (second a b)) a) (eqb (unsecond (first a b) (second a b)) b) u);
      undone_second = eqb→eq (unsecond (first a b) (second a b)) b (both_right (eqb (unfirst (first a b) (second a b)) a) (eqb (unsecond (first a b) (second a b)) b) u);
      redone_first = eqb→eq (first (unfirst a b) (unsecond a b)) a (both_left (eqb (first (unfirst a b) (unsecond a b)) a) (eqb (second (unfirst a b) (unsecond a b)) b) r);
      redone_second = eqb→eq (second (unfirst a b) (unsecond a b)) b (both_right (eqb (first (unfirst a b) (unsecond a b)) a) (eqb (second (unfirst a b) (unsecond a b)) b) r);
      forth_first = ltb→lt (first a b) 16 (both_left (ltb (first a b) 16) (ltb (second a b) 16) f);
      forth_second = ltb→lt (second a b) 16 (both_right (ltb (first a b) 16) (ltb (second a b) 16) f);
      back_first = ltb→lt (unfirst a b) 16 (both_left (ltb (unfirst a b) 16) (ltb (unsecond a b) 16) g);
      back_second = ltb→lt (unsecond a b) 16 (both_right (ltb (unfirst a b) 16) (ltb (unsecond a b) 16) g);
    }
