-- What an answer says, and the line that tells it.
use Rattle.std.specs.Prelude.{◌≡◌, ℕ, ◌/◌, ◌<◌, List, [], ◌∷◌, ◌++◌, length, take, codes, decimal}
use Rattle.refusals.specs.Refusals.{number}
use Rattle.refusals.specs.Sizes.{bits_in}
use Rattle.fields.specs.Hex.{hex_of}
use Rattle.answers.specs.declared.answer.LineAnswer.{LineAnswer}
use Rattle.answers.specs.declared.answer.LineAnswer.TheVariants.{Done, Refused, Shipped, Closed, Total}

pub data Said : Type 0 where
  done : Said
  refused : ℕ → Said
  shipped : List ℕ → Said
  closed : List ℕ → Said
  total : ℕ → ℕ → Said

abbrev pub said : LineAnswer → Said
said Done = done
said (Refused e) = refused (number e)
said (Shipped m) = shipped m
said (Closed s d) = closed (take (bits_in s / 8) d)
said (Total cents count) = total cents count

-- its fields, parted by tabs
abbrev pub fields_of : Said → List ℕ
fields_of done = codes "ok"
fields_of (refused n) = codes "refused" ++ (9 ∷ decimal n)
fields_of (shipped m) = codes "shipped" ++ (9 ∷ hex_of m)
fields_of (closed d) = codes "closed" ++ (9 ∷ hex_of d)
fields_of (total cents count) = codes "total" ++ (9 ∷ (decimal cents ++ (9 ∷ decimal count)))

-- its line
abbrev pub line_of : Said → List ℕ
line_of s = fields_of s ++ (10 ∷ [])

-- the most bytes that a line has
abbrev pub capacity : ℕ
capacity = 137

-- a text has the fields of an answer, with room for the line feed
pub record Tells (t : List ℕ) (s : Said) : Type 0 where
  pub bytes : t ≡ fields_of s
  pub room : length (fields_of s) < capacity
