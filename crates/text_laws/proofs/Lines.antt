-- The lines of a saved text, written and read.
use Rattle.std.proofs.Common.{◌≡◌, ℕ, true, false, List, ◌∷◌, ◌++◌, Some, None, Ok, codes, Option, refl, ap, ◌∙◌, ⊎_elim}
use Rattle.std.specs.Str.{bytes_eq}
use Rattle.std.proofs.lemmas.Slice.Eq.{bytes_eq-Decides}
use Rattle.std.proofs.lemmas.Bool.{cases_Bool}
use Rattle.fields.specs.Faults.{Read}
use Rattle.fields.specs.Options.{and_then}
use Rattle.text_laws.specs.Lines.{LineFields, roll_line, chain_line, pass_line, roll_of, by_word, line_of, first_line}
use Rattle.text_laws.specs.Values.{then_read}
use Rattle.text_laws.specs.Saved.{line_at}
use Rattle.text_laws.proofs.Cuts.{lacks, cut_forth, cut_back}
use Rattle.text_laws.proofs.Inverts.{some_inj, ok_inj, and_then_some, then_ok}

-- the bytes of a line, with no line feed
abbrev pub line_text : LineFields → List ℕ
line_text (roll_line a b c d e) = codes "roll" ++ (9 ∷ (a ++ (9 ∷ (b ++ (9 ∷ (c ++ (9 ∷ (d ++ (9 ∷ e)))))))))
line_text (chain_line h) = codes "chain" ++ (9 ∷ h)
line_text (pass_line h) = codes "pass" ++ (9 ∷ h)

pub roll_forth : (a b c d e : List ℕ) → lacks 9 a ≡ true → lacks 9 b ≡ true → lacks 9 c ≡ true → lacks 9 d ≡ true
    → roll_of (a ++ (9 ∷ (b ++ (9 ∷ (c ++ (9 ∷ (d ++ (9 ∷ e)))))))) ≡ Some (roll_line a b c d e)
roll_forth a b c d e ha hb hc hd =
    rw (cut_forth 9 a (b ++ (9 ∷ (c ++ (9 ∷ (d ++ (9 ∷ e)))))) ha) (rw (cut_forth 9 b (c ++ (9 ∷ (d ++ (9 ∷ e)))) hb) (rw (cut_forth 9 c (d ++ (9 ∷ e)) hc) (rw (cut_forth 9 d e hd) refl)))

roll_back : (t : List ℕ) (l : LineFields) → roll_of t ≡ Some l → codes "roll" ++ (9 ∷ t) ≡ line_text l
roll_back t l h =
    let x1 = and_then_some _ _ l h in
    let x2 = and_then_some _ _ l x1.2 in
    let x3 = and_then_some _ _ l x2.2 in
    let x4 = and_then_some _ _ l x3.2 in
    let e1 = cut_back 9 t x1.0 x1.1 in
    let e2 = cut_back 9 x1.0.1 x2.0 x2.1 in
    let e3 = cut_back 9 x2.0.1 x3.0 x3.1 in
    let e4 = cut_back 9 x3.0.1 x4.0 x4.1 in
    let a = x1.0.0 in let b = x2.0.0 in let c = x3.0.0 in let d = x4.0.0 in
    ap (λ u. codes "roll" ++ (9 ∷ u))
    (e1 ∙ ap (λ u. a ++ (9 ∷ u)) (e2 ∙ ap (λ u. b ++ (9 ∷ u)) (e3 ∙ ap (λ u. c ++ (9 ∷ u)) e4)))
    ∙ ap line_text (some_inj (roll_line a b c d x4.0.1) l x4.2)

same_from : (w v : List ℕ) → bytes_eq w v ≡ true → w ≡ v
same_from w v h = (bytes_eq-Decides w v).0 h

word_back : (w t : List ℕ) (l : LineFields) → by_word w t ≡ Some l → w ++ (9 ∷ t) ≡ line_text l
word_back w t l h =
    ⊎_elim
    (λ (e : bytes_eq w (codes "roll") ≡ true). ap (λ u. u ++ (9 ∷ t)) (same_from w (codes "roll") e) ∙ roll_back t l (simp e at h))
    (λ (e : bytes_eq w (codes "roll") ≡ false). let h1 = simp e at h in
    ⊎_elim
    (λ (f : bytes_eq w (codes "chain") ≡ true). ap (λ u. u ++ (9 ∷ t)) (same_from w (codes "chain") f) ∙ ap line_text (some_inj (chain_line t) l (simp f at h1)))
    (λ (f : bytes_eq w (codes "chain") ≡ false). let h2 = simp f at h1 in
    ⊎_elim
    (λ (g : bytes_eq w (codes "pass") ≡ true). ap (λ u. u ++ (9 ∷ t)) (same_from w (codes "pass") g) ∙ ap line_text (some_inj (pass_line t) l (simp g at h2)))
    (λ (g : bytes_eq w (codes "pass") ≡ false). absurd (let k = simp g at h2 in cc))
    (cases_Bool (bytes_eq w (codes "pass"))))
    (cases_Bool (bytes_eq w (codes "chain"))))
    (cases_Bool (bytes_eq w (codes "roll")))

-- a line that reads as itself is the first of a text that begins with it
pub first_forth : (l : LineFields) (rest : List ℕ) → lacks 10 (line_text l) ≡ true → line_of (line_text l) ≡ Some l → first_line (line_text l ++ (10 ∷ rest)) ≡ Some (l, rest)
first_forth l rest h e =
    ap (λ (o : Option (List ℕ × List ℕ)). and_then o (λ p. and_then (line_of p.0) (λ l. Some (l, p.1)))) (cut_forth 10 (line_text l) rest h)
    ∙ ap (λ (o : Option LineFields). and_then o (λ l. Some (l, rest))) e

pub word_forth : (w : List ℕ) (l : LineFields) (t : List ℕ) → lacks 9 w ≡ true → by_word w t ≡ Some l → line_of (w ++ (9 ∷ t)) ≡ Some l
word_forth w l t h e = ap (λ (o : Option (List ℕ × List ℕ)). and_then o (λ p. by_word p.0 p.1)) (cut_forth 9 w t h) ∙ e

first_back : (t : List ℕ) (l : LineFields) (rest : List ℕ) → first_line t ≡ Some (l, rest) → t ≡ line_text l ++ (10 ∷ rest)
first_back t l rest h =
    let x = and_then_some _ _ (l, rest) h in
    let y = and_then_some _ _ (l, rest) x.2 in
    let z = and_then_some _ _ y.0 y.1 in
    let pr = some_inj {X = LineFields × List ℕ} (y.0, x.0.1) (l, rest) y.2 in
    let el : y.0 ≡ l = ap (λ (q : LineFields × List ℕ). q.0) pr in
    let er : x.0.1 ≡ rest = ap (λ (q : LineFields × List ℕ). q.1) pr in
    let e1 = cut_back 10 t x.0 x.1 in
    let e2 = cut_back 9 x.0.0 z.0 z.1 in
    let e3 = word_back z.0.0 z.0.1 y.0 z.2 in
    e1 ∙ ap (λ u. u ++ (10 ∷ x.0.1)) (e2 ∙ e3 ∙ ap line_text el) ∙ ap (λ u. line_text l ++ (10 ∷ u)) er

pub at_forth : {X : Type 0} (k : ℕ) (t : List ℕ) (f : LineFields → Read X) (l : LineFields) (rest : List ℕ) (x : X) → first_line t ≡ Some (l, rest) → f l ≡ Ok x → line_at k f (first_line t) ≡ Ok (x, rest)
at_forth {X = X} k t f l rest x e g = ap (line_at k f) e ∙ ap (λ (r : Read X). then_read {Y = X × List ℕ} r (λ y. Ok (y, rest))) g

at_ok : {X : Type 0} (k : ℕ) (f : LineFields → Read X) (o : Option (LineFields × List ℕ)) (p : X × List ℕ) → line_at k f o ≡ Ok p
    → (q : LineFields × List ℕ) × (o ≡ Some q) × (f q.0 ≡ Ok p.0) × (q.1 ≡ p.1)
at_ok k f None p h = absurd cc
at_ok {X = X} k f (Some q) p h =
    let x = then_ok {Y = X × List ℕ} (f q.0) (λ y. Ok (y, q.1)) p h in
    let pr = ok_inj {X = X × List ℕ} (x.0, q.1) p x.2 in
    (q, refl, x.1 ∙ ap (λ (y : X × List ℕ). Ok y.0) pr, ap (λ (y : X × List ℕ). y.1) pr)

-- a line that was read, by what it says
pub at_back : {X : Type 0} (k : ℕ) (f : LineFields → Read X) (t : List ℕ) (p : X × List ℕ) → line_at k f (first_line t) ≡ Ok p
    → (l : LineFields) × (t ≡ line_text l ++ (10 ∷ p.1)) × (f l ≡ Ok p.0)
at_back k f t p h =
    let x = at_ok k f (first_line t) p h in
    (x.0.0, first_back t x.0.0 x.0.1 x.1 ∙ ap (λ u. line_text x.0.0 ++ (10 ∷ u)) x.3, x.2)
