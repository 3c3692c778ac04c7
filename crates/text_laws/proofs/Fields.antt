-- Decimal and hexadecimal fields, written and read.
use Rattle.std.proofs.Common.{◌≡◌, ℕ, ◌+◌, ◌-◌, ◌*◌, ◌/◌, ◌%◌, ◌^◌, ◌<◌, true, cond, not, ◌&&◌, ◌||◌, eqb, List, [], ◌∷◌, length, get_or, Some, None, Ok, decimal, sym, refl, ap, ◌∙◌, subst, ⊎_elim, arith}
use native.Mathlib.Nat.{div-add-mod}
use Rattle.std.specs.Char.{is_ascii_digit}
use Rattle.std.specs.Str.{all_ascii_digits}
use Rattle.std.specs.List.{AllByRecursion}
use Rattle.std.proofs.lemmas.Str.Parse.{digits_value_short}
use Rattle.std.proofs.lemmas.Fmt.{digits_decimal, digits_value-decimal, length-decimal-le, decimal_nonempty, first_decimal, decimal_digit, decimal-digits_value}
use Rattle.std.proofs.lemmas.Bool.{le-leb, and_parts, and_from, or_left, or_right, eq-eqb, ne_eqb, cases_eq, eqb-true, leb-true, not_from_false, both_ways, not-true, or_cases}
use Rattle.std.proofs.lemmas.Bool.Decides.{nat_tests}
use Rattle.byte_strings.specs.Bytes.{Bytes}
use Rattle.byte_strings.proofs.Strings.{all_bytes, bytes_all}
use Rattle.fields.specs.Decimals.{is_decimal, read_on}
use Rattle.fields.specs.Hex.{is_hex_digit, all_hex, nibble, hex_digit, hex_of, bytes_of}
use Rattle.fields.specs.Faults.{number_at, bytes_at, at_line}
use Rattle.fields.proofs.Numerals.{own}
use Rattle.fields.proofs.Texts.{length_hex}
use Rattle.text_laws.proofs.Cuts.{lacks}
use Rattle.text_laws.proofs.Inverts.{read_ok}

decimal_form : (n : ℕ) → n < 10 ^ 16 → is_decimal (decimal n) ≡ true
decimal_form n h =
    let some = decimal_nonempty n (omega arith) in
    let few = length-decimal-le 16 n (omega arith) h (omega arith) in
    let digits = digits_decimal own n (omega arith) in
    let lead : (not (eqb (get_or (decimal n) 0 0) 48) || eqb (length (decimal n)) 1) ≡ true =
    ⊎_elim
    (λ (z : n ≡ 0). or_right (not (eqb (get_or (decimal n) 0 0) 48)) (eqb (length (decimal n)) 1) (eq-eqb _ _ (ap length (decimal_digit n (omega arith)))))
    (λ (z : n ≡ 0 → ⊥). let f = first_decimal n (omega arith) (omega arith) in
    or_left (not (eqb (get_or (decimal n) 0 0) 48)) (eqb (length (decimal n)) 1) (not_from_false _ (ne_eqb _ _ (λ e. omega (arith, f, e)))))
    (cases_eq n 0) in
    and_from _ _ (and_from _ _ (and_from _ _ (le-leb 1 (length (decimal n)) some) (le-leb (length (decimal n)) 16 few)) lead) digits

decimal_back : (ds : List ℕ) → is_decimal ds ≡ true → decimal (read_on 0 ds) ≡ ds
decimal_back ds h =
    let all = and_parts _ _ h in
    let most = and_parts _ _ all.0 in
    let lens = and_parts _ _ most.0 in
    let low = leb-true 1 (length ds) lens.0 in
    let high = leb-true (length ds) 16 lens.1 in
    let v = digits_value_short own ds 16 all.1 high in
    decimal-digits_value own ds all.1 low
    (λ e. ⊎_elim
    (λ (n : not (eqb (get_or ds 0 0) 48) ≡ true). absurd (both_ways _ (not-true _ n) (eq-eqb _ _ e)))
    (λ (n : eqb (length ds) 1 ≡ true). eqb-true _ _ n)
    (or_cases _ _ most.1))
    (omega (arith, v))

-- a number of at most 16 digits reads back
pub number_forth : (k n : ℕ) → n < 10 ^ 16 → number_at k (decimal n) ≡ Ok n
number_forth k n h =
    ap (λ b. at_line k (cond b (Some (read_on 0 (decimal n))) None)) (decimal_form n h) ∙ ap (λ m. Ok m) (digits_value-decimal own n (omega arith))

-- a decimal field that was read is what its number is written as
pub number_back : (k : ℕ) (ds : List ℕ) (n : ℕ) → number_at k ds ≡ Ok n → ds ≡ decimal n
number_back k ds n h =
    let c = read_ok k (is_decimal ds) (read_on 0 ds) n h in
    sym (decimal_back ds c.0) ∙ ap decimal c.1

lacks_digits : (b : ℕ) → b < 48 → (ds : List ℕ) → all_ascii_digits ds ≡ true → lacks b ds ≡ true
lacks_digits b h [] d = refl
lacks_digits b h (x ∷ ds) d =
    let p = and_parts (is_ascii_digit x) (all_ascii_digits ds) d in
    let q = p.0 in
    let e : not (eqb x b) ≡ true = grind (arith, nat_tests) in
    and_from _ _ e (lacks_digits b h ds p.1)

-- no tab and no line feed stands among digits
pub lacks_decimal : (b n : ℕ) → b < 48 → n < 10 ^ 16 → lacks b (decimal n) ≡ true
lacks_decimal b n h k = lacks_digits b h (decimal n) (digits_decimal own n (omega arith))

pub lacks_hex : (b : ℕ) → b < 48 → (p : List ℕ) → lacks b (hex_of p) ≡ true
lacks_hex b h [] = refl
lacks_hex b h (x ∷ p) =
    let e : not (eqb (hex_digit (x / 16)) b) ≡ true = grind (arith, nat_tests) in
    let f : not (eqb (hex_digit (x % 16)) b) ≡ true = grind (arith, nat_tests) in
    and_from _ _ e (and_from _ _ f (lacks_hex b h p))

nibble_forth : (n : ℕ) → n < 16 → (is_hex_digit (hex_digit n) ≡ true) × (nibble (hex_digit n) ≡ n)
nibble_forth n h = (grind (arith, nat_tests), grind (arith, nat_tests))

nibble_back : (a : ℕ) → is_hex_digit a ≡ true → (nibble a < 16) × (hex_digit (nibble a) ≡ a)
nibble_back a h = (grind (arith, nat_tests), grind (arith, nat_tests))

hex_forth : (p : List ℕ) → AllByRecursion (λ x. x < 256) p → (all_hex (hex_of p) ≡ true) × (bytes_of (hex_of p) ≡ p)
hex_forth [] h = (refl, refl)
hex_forth (x ∷ p) h =
    let small = h.0 in
    let a = nibble_forth (x / 16) (omega (arith, small)) in
    let b = nibble_forth (x % 16) (omega arith) in
    let r = hex_forth p h.1 in
    let v : 16 * nibble (hex_digit (x / 16)) + nibble (hex_digit (x % 16)) ≡ x = ap (λ m. 16 * m + nibble (hex_digit (x % 16))) a.1 ∙ ap (λ m. 16 * (x / 16) + m) b.1 ∙ div-add-mod x 16 in
    (and_from _ _ a.0 (and_from _ _ b.0 r.0), ap (λ m. m ∷ bytes_of (hex_of p)) v ∙ ap (λ t. x ∷ t) r.1)

hex_pair : (a b : ℕ) → is_hex_digit a ≡ true → is_hex_digit b ≡ true → (hex_digit ((16 * nibble a + nibble b) / 16) ≡ a) × (hex_digit ((16 * nibble a + nibble b) % 16) ≡ b)
hex_pair a b ha hb =
    let na = nibble_back a ha in
    let nb = nibble_back b hb in
    let q : (16 * nibble a + nibble b) / 16 ≡ nibble a = omega (arith, na.0, nb.0) in
    let r : (16 * nibble a + nibble b) % 16 ≡ nibble b = omega (arith, na.0, nb.0) in
    (ap hex_digit q ∙ na.1, ap hex_digit r ∙ nb.1)

hex_back : (n : ℕ) (ds : List ℕ) → length ds ≡ 2 * n → all_hex ds ≡ true → (hex_of (bytes_of ds) ≡ ds) × (length (bytes_of ds) ≡ n) × AllByRecursion (λ x. x < 256) (bytes_of ds)
hex_back n [] l h = (refl, omega arith, tt)
hex_back n (a ∷ []) l h = absurd (omega arith)
hex_back n (a ∷ (b ∷ ds)) l h =
    let p = and_parts _ _ h in
    let q = and_parts _ _ p.1 in
    let two = hex_pair a b p.0 q.0 in
    let na = nibble_back a p.0 in
    let nb = nibble_back b q.0 in
    let r = hex_back (n - 1) ds (omega arith) q.1 in
    let m = r.1 in (
      ap (λ x. x ∷ (hex_digit ((16 * nibble a + nibble b) % 16) ∷ hex_of (bytes_of ds))) two.0
          ∙ ap (λ x. a ∷ (x ∷ hex_of (bytes_of ds))) two.1
          ∙ ap (λ t. a ∷ (b ∷ t)) r.0,
      omega (arith, m, l),
      (omega (arith, na.0, nb.0), r.2),
    )

-- the digits of n bytes read back
pub bytes_forth : (k n : ℕ) (p : List ℕ) → Bytes n p → bytes_at k n (hex_of p) ≡ Ok p
bytes_forth k n p h =
    let r = hex_forth p (all_bytes h) in
    let e = eq-eqb (length (hex_of p)) (2 * n) (length_hex p ∙ ap (λ m. 2 * m) h.len) in
    ap (λ b. at_line k (cond b (Some (bytes_of (hex_of p))) None)) (and_from _ _ e r.0) ∙ ap (λ t. Ok t) r.1

-- a hexadecimal field that was read is the digits of its bytes
pub bytes_back : (k n : ℕ) (ds p : List ℕ) → bytes_at k n ds ≡ Ok p → (ds ≡ hex_of p) × Bytes n p
bytes_back k n ds p h =
    let c = read_ok k (eqb (length ds) (2 * n) && all_hex ds) (bytes_of ds) p h in
    let b = and_parts _ _ c.0 in
    let r = hex_back n ds (eqb-true _ _ b.0) b.1 in
    (sym r.0 ∙ ap hex_of c.1, subst (Bytes n) c.1 (bytes_all n (bytes_of ds) r.1 r.2))
