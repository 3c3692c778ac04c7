-- Texts with the same first lines.
use Rattle.std.proofs.Common.{◌≡◌, ℕ, suc, Bool, true, false, cond, not, eqb, List, [], ◌∷◌, ◌++◌, Some, None, Ok, Err, Option, sym, refl, ap, ◌∙◌, subst, arith}
use Rattle.std.proofs.lemmas.Bool.{and_parts, not-true}
use Rattle.fields.specs.Cuts.{cut_at}
use Rattle.fields.specs.Faults.{Read}
use Rattle.fields.specs.Options.{and_then}
use Rattle.text_laws.specs.Lines.{LineFields, line_of, first_line}
use Rattle.text_laws.specs.Values.{then_read}
use Rattle.text_laws.specs.Saved.{line_at}
use Rattle.text_laws.specs.FirstLines.{first_lines}
use Rattle.text_laws.proofs.Cuts.{lacks, grown, cut_cons}

-- a line, and the first n of those after it
pub lines_after : (l : List ℕ) (n : ℕ) (rest : List ℕ) → lacks 10 l ≡ true → first_lines (suc n) (l ++ (10 ∷ rest)) ≡ l ++ (10 ∷ first_lines n rest)
lines_after [] n rest h = refl
lines_after (b ∷ l) n rest h =
    let p = and_parts (not (eqb b 10)) (lacks 10 l) h in
    ap (λ c. b ∷ cond c (first_lines n (l ++ (10 ∷ rest))) (first_lines (suc n) (l ++ (10 ∷ rest)))) (not-true (eqb b 10) p.0)
    ∙ ap (λ t. b ∷ t) (lines_after l n rest p.1)

-- what the cuts of two texts with the same first n + 1 lines have in common
abbrev Alike : ℕ → List ℕ → List ℕ → Option (List ℕ × List ℕ) → Option (List ℕ × List ℕ) → Type 0
Alike n t u None None = t ≡ u
Alike n t u None (Some q) = ⊥
Alike n t u (Some p) None = ⊥
Alike n t u (Some p) (Some q) = (p.0 ≡ q.0) × (first_lines n p.1 ≡ first_lines n q.1)

grown_alike : (n b : ℕ) (t u : List ℕ) (o r : Option (List ℕ × List ℕ)) → Alike n t u o r → Alike n (b ∷ t) (b ∷ u) (grown b o) (grown b r)
grown_alike n b t u None None h = ap (λ x. b ∷ x) h
grown_alike n b t u None (Some q) h = h
grown_alike n b t u (Some p) None h = h
grown_alike n b t u (Some p) (Some q) h = (ap (λ x. b ∷ x) h.0, h.1)

-- with the same first byte b
cons_alike : (n b : ℕ) (t u : List ℕ) → (first_lines (suc n) t ≡ first_lines (suc n) u → Alike n t u (cut_at 10 t) (cut_at 10 u))
    → cond (eqb b 10) (first_lines n t) (first_lines (suc n) t) ≡ cond (eqb b 10) (first_lines n u) (first_lines (suc n) u)
    → Alike n (b ∷ t) (b ∷ u) (cut_at 10 (b ∷ t)) (cut_at 10 (b ∷ u))
cons_alike n b t u go h =
    let A : Bool → Type 0 = λ c. cond c (first_lines n t) (first_lines (suc n) t) ≡ cond c (first_lines n u) (first_lines (suc n) u)
    → Alike n (b ∷ t) (b ∷ u) (cond c (Some ([], t)) (grown b (cut_at 10 t))) (cond c (Some ([], u)) (grown b (cut_at 10 u))) in
    let at : A (eqb b 10) = elim (eqb b 10) as (λ c. A c) [ true ↦ λ e. (refl, e) | false ↦ λ e. grown_alike n b t u (cut_at 10 t) (cut_at 10 u) (go e) ] in
    let B : Option (List ℕ × List ℕ) → Type 0 = λ o. Alike n (b ∷ t) (b ∷ u) o (cut_at 10 (b ∷ u)) in
    let C : Option (List ℕ × List ℕ) → Type 0 = λ o. Alike n (b ∷ t) (b ∷ u) (cond (eqb b 10) (Some ([], t)) (grown b (cut_at 10 t))) o in
    subst B (sym (cut_cons 10 b t)) (subst C (sym (cut_cons 10 b u)) (at h))

cuts_alike : (n : ℕ) (t u : List ℕ) → first_lines (suc n) t ≡ first_lines (suc n) u → Alike n t u (cut_at 10 t) (cut_at 10 u)
cuts_alike n [] [] h = refl
cuts_alike n [] (y ∷ u) h = let z : ◌≡◌ {A = ℕ} 0 1 = cc in absurd (omega arith)
cuts_alike n (x ∷ t) [] h = let z : ◌≡◌ {A = ℕ} 0 1 = cc in absurd (omega arith)
cuts_alike n (x ∷ t) (y ∷ u) h =
    let e : x ≡ y = cc in
    let f : cond (eqb x 10) (first_lines n t) (first_lines (suc n) t) ≡ cond (eqb y 10) (first_lines n u) (first_lines (suc n) u) = cc in
    let P : ℕ → Type 0 = λ z. cond (eqb x 10) (first_lines n t) (first_lines (suc n) t) ≡ cond (eqb z 10) (first_lines n u) (first_lines (suc n) u)
    → Alike n (x ∷ t) (z ∷ u) (cut_at 10 (x ∷ t)) (cut_at 10 (z ∷ u)) in
    subst P e (cons_alike n x t u (cuts_alike n t u)) f

-- what two readings of a line have in common: the refusal, or what was read and the first n lines of what follows
abbrev pub Agree : {X : Type 0} → ℕ → Read (X × List ℕ) → Read (X × List ℕ) → Type 0
Agree n (Ok p) (Ok q) = (p.0 ≡ q.0) × (first_lines n p.1 ≡ first_lines n q.1)
Agree n (Ok p) (Err f) = ⊥
Agree n (Err e) (Ok q) = ⊥
Agree n (Err e) (Err f) = e ≡ f

agree_read : {X : Type 0} (n : ℕ) (r : Read X) (t u : List ℕ) → first_lines n t ≡ first_lines n u → Agree n (then_read {Y = X × List ℕ} r (λ x. Ok (x, t))) (then_read {Y = X × List ℕ} r (λ x. Ok (x, u)))
agree_read n (Ok x) t u h = (refl, h)
agree_read n (Err e) t u h = refl

agree_line : {X : Type 0} (n k : ℕ) (f : LineFields → Read X) (o : Option LineFields) (t u : List ℕ) → first_lines n t ≡ first_lines n u
    → Agree n (line_at k f (and_then o (λ l. Some (l, t)))) (line_at k f (and_then o (λ l. Some (l, u))))
agree_line n k f None t u h = refl
agree_line n k f (Some l) t u h = agree_read n (f l) t u h

agree_cut : {X : Type 0} (n k : ℕ) (f : LineFields → Read X) (t u : List ℕ) (o r : Option (List ℕ × List ℕ)) → Alike n t u o r
    → Agree n (line_at k f (and_then o (λ p. and_then (line_of p.0) (λ l. Some (l, p.1))))) (line_at k f (and_then r (λ p. and_then (line_of p.0) (λ l. Some (l, p.1)))))
agree_cut n k f t u None None h = refl
agree_cut n k f t u None (Some q) h = absurd h
agree_cut n k f t u (Some p) None h = absurd h
agree_cut {X = X} n k f t u (Some p) (Some q) h =
    let P : List ℕ → Type 0 = λ l. Agree n (line_at k f (and_then (line_of p.0) (λ l. Some (l, p.1)))) (line_at k f (and_then (line_of l) (λ l. Some (l, q.1)))) in
    subst P h.0 (agree_line n k f (line_of p.0) p.1 q.1 h.1)

pub lines_agree : {X : Type 0} (n k : ℕ) (f : LineFields → Read X) (t u : List ℕ) → first_lines (suc n) t ≡ first_lines (suc n) u
    → Agree n (line_at k f (first_line t)) (line_at k f (first_line u))
lines_agree n k f t u h = agree_cut n k f t u (cut_at 10 t) (cut_at 10 u) (cuts_alike n t u h)
