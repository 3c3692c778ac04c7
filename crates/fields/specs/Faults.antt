-- What is read from a text by lines, or why not.
use Rattle.std.specs.Prelude.{ℕ, List, Some, None, Ok, Err, Option, Result}
use Rattle.fields.specs.Decimals.{number_of}
use Rattle.fields.specs.Hex.{read_hex}

-- what is read, or the number of a refusal and its line
abbrev pub Read : Type 0 → Type 0
Read X = Result X (ℕ × ℕ)

-- 14: line k is not of its form
abbrev pub not_of_form : {X : Type 0} → ℕ → Read X
not_of_form k = Err (14, k)

-- 15: line k is of its form, with a wrong value
abbrev pub wrong_value : {X : Type 0} → ℕ → Read X
wrong_value k = Err (15, k)

-- a field of line k that is read, or is not of its form
abbrev pub at_line : {X : Type 0} → ℕ → Option X → Read X
at_line k (Some x) = Ok x
at_line k None = not_of_form k

abbrev pub number_at : ℕ → List ℕ → Read ℕ
number_at k ds = at_line k (number_of ds)

-- n bytes
abbrev pub bytes_at : ℕ → ℕ → List ℕ → Read (List ℕ)
bytes_at k n ds = at_line k (read_hex n ds)
