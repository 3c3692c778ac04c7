-- The report of a message: a line for each digest size, or the refusal.
use Rattle.std.specs.Prelude.{◌≡◌, ℕ, ◌+◌, ◌*◌, ◌/◌, ◌^◌, ◌≤◌, Bool, cond, List, [], ◌∷◌, ◌++◌, length, take, codes, decimal, nat_lt}
use Rattle.fields.specs.Hex.{hex_of}
use Rattle.jh.specs.Message.{bits_of}

-- "refused", a tab, the number 2 and a line feed
abbrev pub refusal_line : List ℕ
refusal_line = codes "refused" ++ (9 ∷ (50 ∷ (10 ∷ [])))

-- what `digest` gives of a size and a message in bits
module _ (digest : ℕ → List Bool → List ℕ) where
  -- the size, a tab, the digest in hexadecimal digits, and a line feed
  abbrev pub line : ℕ → List ℕ → List ℕ
  line size m = decimal size ++ (9 ∷ (hex_of (digest size (bits_of m)) ++ (10 ∷ [])))

  -- the lines of the four sizes
  abbrev pub lines : List ℕ → List ℕ
  lines m = line 224 m ++ (line 256 m ++ (line 384 m ++ line 512 m))

  -- the report of a message in bytes
  unfoldable pub report_of : List ℕ → List ℕ
  report_of m = cond (nat_lt (2 ^ 40) (length m)) refusal_line (lines m)

  -- the line of one size, with a digit for each four bits, came to the end of a text that takes 364 bytes
  pub record Adds (size : ℕ) (m : List ℕ) (before after : List ℕ) : Type 0 where
    pub long : length (line size m) ≡ 2 * (size / 8) + 5
    pub text : after ≡ take 364 (before ++ line size m)

  -- the lines of the four sizes came to the end of a text that takes 364 bytes, and are not longer than that
  pub record AddsLines (m : List ℕ) (before after : List ℕ) : Type 0 where
    pub long : length (lines m) ≤ 364
    pub text : after ≡ take 364 (before ++ lines m)
