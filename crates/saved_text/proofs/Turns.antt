-- One turn of the reader of passages.
use Rattle.std.proofs.Common.{◌≡◌, ℕ, Bool, false, cond, eqb, suc, ◌+◌, ◌-◌, ◌<◌, List, [], ◌∷◌, ◌++◌, length, Some, None, Ok, Err, Option, sym, ap, ◌∙◌, arith}
use Rattle.passages.specs.Fields.{serial_of}
use Rattle.fields.specs.Faults.{Read}
use Rattle.text_laws.specs.Lines.{LineFields, first_line}
use Rattle.text_laws.specs.Values.{then_read, passage_of}
use Rattle.text_laws.specs.Saved.{line_at, passages}

-- the reader has come to line k, with the passages from line 3 on in got
abbrev pub Come : (n k last before : ℕ) (got : List (List ℕ)) (rest text : List ℕ) → Type 0
Come n k last before got rest text = passages (n + 3 - k) k before got rest ≡ passages n 3 last [] text

pub come_as : (n k last b b' : ℕ) (g g' : List (List ℕ)) (rest text : List ℕ) → b' ≡ b → g' ≡ g → Come n k last b g rest text → Come n k last b' g' rest text
come_as n k last b b' g g' rest text e f come = ap (λ x. passages (n + 3 - k) k x g' rest) e ∙ ap (λ x. passages (n + 3 - k) k b x rest) f ∙ come

-- line k, after the last passage, is left over
pub left_over : (n k last before : ℕ) (got : List (List ℕ)) (rest text : List ℕ) → k ≡ n + 3 → eqb (length rest) 0 ≡ false → Come n k last before got rest text → passages n 3 last [] text ≡ Err (14, k)
left_over n k last before got rest text at some come =
    let e : n + 3 - k ≡ 0 = omega arith in
    sym come ∙ ap (λ m. passages m k before got rest) e ∙ ap (λ (b : Bool). cond b (Ok got) (Err (14, k))) some

-- what is read after the passage of line k
abbrev onward : (n k : ℕ) (got : List (List ℕ)) → List ℕ × List ℕ → Read (List (List ℕ))
onward n k got p = passages (n + 3 - (k + 1)) (k + 1) (serial_of p.0) (got ++ (p.0 ∷ [])) p.1

abbrev paired : Read (List ℕ) → List ℕ → Read (List ℕ × List ℕ)
paired r after = then_read r (λ y. Ok (y, after))

module _ (n k last before : ℕ) (got : List (List ℕ)) (rest text : List ℕ) (h : k < n + 3) (come : Come n k last before got rest text) where
  turn : passages n 3 last [] text ≡ then_read (line_at k (passage_of k before) (first_line rest)) (onward n k got)
  turn = let e : n + 3 - k ≡ suc (n + 3 - (k + 1)) = omega arith in sym come ∙ ap (λ m. passages m k before got rest) e

  pub no_line : first_line rest ≡ None → passages n 3 last [] text ≡ Err (14, k)
  no_line e = turn ∙ ap (λ (o : Option (LineFields × List ℕ)). then_read (line_at k (passage_of k before) o) (onward n k got)) e

  module _ (l : LineFields) (after : List ℕ) (e : first_line rest ≡ Some (l, after)) where
    read : passages n 3 last [] text ≡ then_read (paired (passage_of k before l) after) (onward n k got)
    read = turn ∙ ap (λ (o : Option (LineFields × List ℕ)). then_read (line_at k (passage_of k before) o) (onward n k got)) e

    pub no_passage : (x : ℕ × ℕ) → passage_of k before l ≡ Err x → passages n 3 last [] text ≡ Err x
    no_passage x f = read ∙ ap (λ r. then_read (paired r after) (onward n k got)) f

    pub come_on : (m : List ℕ) → passage_of k before l ≡ Ok m → Come n (k + 1) last (serial_of m) (got ++ (m ∷ [])) after text
    come_on m f = sym (read ∙ ap (λ r. then_read (paired r after) (onward n k got)) f)
