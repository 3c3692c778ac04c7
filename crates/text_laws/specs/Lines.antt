-- The lines of a saved text, by their fields.
use Rattle.std.specs.Prelude.{ℕ, cond, List, Some, None, codes, Option}
use Rattle.std.specs.Str.{bytes_eq}
use Rattle.fields.specs.Cuts.{cut_at}
use Rattle.fields.specs.Options.{and_then}

-- a line by the bytes of its fields: size, shipped count, last serial, cents and window count; a chain value; a passage
pub data LineFields : Type 0 where
  roll_line : List ℕ → List ℕ → List ℕ → List ℕ → List ℕ → LineFields
  chain_line : List ℕ → LineFields
  pass_line : List ℕ → LineFields

-- five fields parted by tabs
abbrev pub roll_of : List ℕ → Option LineFields
roll_of t =
    and_then (cut_at 9 t) (λ a.
    and_then (cut_at 9 a.1) (λ b.
    and_then (cut_at 9 b.1) (λ c.
    and_then (cut_at 9 c.1) (λ d.
    Some (roll_line a.0 b.0 c.0 d.0 d.1)))))

-- the word w, and what stands after its tab
abbrev pub by_word : List ℕ → List ℕ → Option LineFields
by_word w t =
    cond (bytes_eq w (codes "roll")) (roll_of t)
    (cond (bytes_eq w (codes "chain")) (Some (chain_line t))
    (cond (bytes_eq w (codes "pass")) (Some (pass_line t)) None))

-- the line that bytes with no line feed are
abbrev pub line_of : List ℕ → Option LineFields
line_of t = and_then (cut_at 9 t) (λ p. by_word p.0 p.1)

-- the first line of a text, and the text after it
abbrev pub first_line : List ℕ → Option (LineFields × List ℕ)
first_line t = and_then (cut_at 10 t) (λ p. and_then (line_of p.0) (λ l. Some (l, p.1)))
