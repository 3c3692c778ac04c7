-- A whole saved text, read line by line.
use Rattle.std.specs.Prelude.{ℕ, zero, suc, ◌+◌, cond, List, [], ◌∷◌, ◌++◌, length, Some, None, Ok, Option, ◌==◌}
use Rattle.passages.specs.Fields.{serial_of}
use Rattle.fields.specs.Faults.{Read, not_of_form}
use Rattle.text_laws.specs.Lines.{LineFields, first_line}
use Rattle.text_laws.specs.Values.{Numbers, then_read, numbers_of, chain_of, passage_of}

-- what a saved text says: of the shipped passages their count, the last serial and the cents; the passages in the window,
-- each in its 64 bytes
pub record Saved : Type 0 where
  pub size : ℕ
  pub shipped : ℕ
  pub last : ℕ
  pub cents : ℕ
  pub chain : List ℕ
  pub window : List (List ℕ)

-- a roll by the numbers of its line 1, its chain value and its window
abbrev pub saved : Numbers → List ℕ → List (List ℕ) → Saved
saved n c w = record { size = n.size; shipped = n.shipped; last = n.last; cents = n.cents; chain = c; window = w }

-- what line k, the first of a text, says, and the text after it
abbrev pub line_at : {X : Type 0} → ℕ → (LineFields → Read X) → Option (LineFields × List ℕ) → Read (X × List ℕ)
line_at k f None = not_of_form k
line_at k f (Some p) = then_read (f p.0) (λ x. Ok (x, p.1))

-- n more passages, from line k on, after one with the serial `before` and those in got; then nothing may be left
abbrev pub passages : ℕ → ℕ → ℕ → List (List ℕ) → List ℕ → Read (List (List ℕ))
passages zero k before got t = cond (length t == 0) (Ok got) (not_of_form k)
passages (suc n) k before got t =
    then_read (line_at k (passage_of k before) (first_line t)) (λ p. passages n (k + 1) (serial_of p.0) (got ++ (p.0 ∷ [])) p.1)

abbrev pub read_text : List ℕ → Read Saved
read_text t =
    then_read (line_at 1 (numbers_of 1) (first_line t)) (λ n.
    then_read (line_at 2 (chain_of 2) (first_line n.1)) (λ c.
    then_read (passages n.0.window 3 n.0.last [] c.1) (λ w.
    Ok (saved n.0 c.0 w))))
