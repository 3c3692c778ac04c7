-- The numbers of line 1, by what holds of them.
use Rattle.std.proofs.Common.{◌≡◌, ℕ, ◌+◌, ◌*◌, ◌^◌, ◌<◌, ◌≤◌, true, not, ◌&&◌, ◌||◌, eqb, leb, ⊎_elim, arith}
use Rattle.std.proofs.lemmas.Bool.{and_parts, and_from, or_left, or_right, or_cases, eqb-true, eq-eqb, ne_eqb, leb-true, le-leb, not-true, not_from_false, both_ways, cases_eq}
use Rattle.std.proofs.lemmas.Bool.Decides.{nat_tests}
use Rattle.refusals.specs.Sizes.{is_size}
use Rattle.text_laws.specs.Values.{Numbers, are_valid}

pub record ValidNumbers (n : Numbers) : Type 0 where
  pub size : is_size n.size ≡ true
  pub few : n.window ≤ 32
  pub most : n.shipped + n.window ≤ 1000000
  pub high : n.last ≤ 4294967295
  pub risen : n.shipped ≤ n.last
  pub fresh : n.shipped ≡ 0 → (n.last ≡ 0) × (n.cents ≡ 0)
  pub paid : n.cents ≤ n.shipped * 4294967295

pub valid_numbers : (n : Numbers) → are_valid n ≡ true → ValidNumbers n
valid_numbers n e =
    let p1 = and_parts (is_size n.size) _ e in
    let p2 = and_parts (leb n.window 32) _ p1.1 in
    let p3 = and_parts (leb (n.shipped + n.window) 1000000) _ p2.1 in
    let p4 = and_parts (leb n.last 4294967295) _ p3.1 in
    let p5 = and_parts (leb n.shipped n.last) _ p4.1 in
    let p6 = and_parts (not (eqb n.shipped 0) || (eqb n.last 0 && eqb n.cents 0)) (leb n.cents (n.shipped * 4294967295)) p5.1 in
    record {
      size = p1.0;
      few = leb-true _ _ p2.0;
      most = leb-true _ _ p3.0;
      high = leb-true _ _ p4.0;
      risen = leb-true _ _ p5.0;
      fresh = λ z. ⊎_elim
          (λ (h : not (eqb n.shipped 0) ≡ true). absurd (both_ways _ (not-true _ h) (eq-eqb _ _ z)))
          (λ (h : (eqb n.last 0 && eqb n.cents 0) ≡ true). let q = and_parts (eqb n.last 0) (eqb n.cents 0) h in (eqb-true _ _ q.0, eqb-true _ _ q.1))
          (or_cases (not (eqb n.shipped 0)) (eqb n.last 0 && eqb n.cents 0) p6.0);
      paid = leb-true _ _ p6.1;
    }

pub numbers_valid : (n : Numbers) → ValidNumbers n → are_valid n ≡ true
numbers_valid n s =
    let fresh : (not (eqb n.shipped 0) || (eqb n.last 0 && eqb n.cents 0)) ≡ true = ⊎_elim
    (λ (z : n.shipped ≡ 0). or_right (not (eqb n.shipped 0)) (eqb n.last 0 && eqb n.cents 0) (and_from (eqb n.last 0) (eqb n.cents 0) (eq-eqb _ _ (s.fresh z).0) (eq-eqb _ _ (s.fresh z).1)))
    (λ (z : n.shipped ≡ 0 → ⊥). or_left (not (eqb n.shipped 0)) (eqb n.last 0 && eqb n.cents 0) (not_from_false _ (ne_eqb _ _ z)))
    (cases_eq n.shipped 0) in
    and_from (is_size n.size) _ s.size (and_from _ _ (le-leb _ _ s.few) (and_from _ _ (le-leb _ _ s.most) (and_from _ _ (le-leb _ _ s.high) (and_from _ _ (le-leb _ _ s.risen)
    (and_from (not (eqb n.shipped 0) || (eqb n.last 0 && eqb n.cents 0)) (leb n.cents (n.shipped * 4294967295)) fresh (le-leb _ _ s.paid))))))

size_small : (n : ℕ) → is_size n ≡ true → n ≤ 512
size_small n h = grind (arith, nat_tests)

-- they have at most 16 digits
pub record Small (n : Numbers) : Type 0 where
  pub size : n.size < 10 ^ 16
  pub shipped : n.shipped < 10 ^ 16
  pub last : n.last < 10 ^ 16
  pub cents : n.cents < 10 ^ 16
  pub window : n.window < 10 ^ 16

pub small : (n : Numbers) → ValidNumbers n → Small n
small n s =
    let z = size_small n.size s.size in
    let m = s.most in
    let w = s.few in
    let l = s.high in
    let p = s.paid in
    record { size = omega (arith, z); shipped = omega (arith, m); last = omega (arith, l); cents = omega (arith, m, p); window = omega (arith, w) }
