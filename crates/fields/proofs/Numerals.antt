-- Decimal fields, as numerals.
use Rattle.std.proofs.Common.{◌≡◌, ℕ, true, not, ◌||◌, ◌&&◌, leb, eqb, List, length, get_or, Ok, Result, arith, rules}
use Rattle.std.specs.Str.{IsUtf8, all_ascii_digits}
use Rattle.std.specs.Str.Parse.{ParsesUnsigned}
use Rattle.std.proofs.lemmas.Bool.{and_parts, leb-true}
use Rattle.std.proofs.lemmas.Fmt.{IsAscii-from_digits}
use Rattle.std.proofs.lemmas.Str.{IsUtf8-from_ascii}
use Rattle.std.proofs.lemmas.Str.Parse.{IsNumeralModel, numerals_by_fold, digits_value_short, parse_gives}
use Rattle.fields.specs.Decimals.{is_decimal, read_on}

-- texts of digits and their numbers are the library's
pub own : IsNumeralModel (λ ds. all_ascii_digits ds ≡ true) (read_on 0)
own = numerals_by_fold _ (search rules) read_on (search rules)

module _ (ds : List ℕ) (h : is_decimal ds ≡ true) where
  all : (((leb 1 (length ds) && leb (length ds) 16) && (not (eqb (get_or ds 0 0) 48) || eqb (length ds) 1)) ≡ true) × (all_ascii_digits ds ≡ true)
  all = and_parts _ _ h

  lengths : (leb 1 (length ds) ≡ true) × (leb (length ds) 16 ≡ true)
  lengths = and_parts _ _ (and_parts (leb 1 (length ds) && leb (length ds) 16) _ all.0).0

  pub is_text : IsUtf8 ds
  is_text = IsUtf8-from_ascii ds (IsAscii-from_digits ds (own.to ds all.1))

  pub parsed : {E : Type 0} (r : Result ℕ E) → ParsesUnsigned 64 10 ds r → r ≡ Ok (read_on 0 ds)
  parsed r p =
      let some = leb-true 1 (length ds) lengths.0 in
      let small = digits_value_short own ds 16 all.1 (leb-true (length ds) 16 lengths.1) in
      parse_gives own 64 ds r p all.1 (omega (arith, some)) (omega (arith, small))
