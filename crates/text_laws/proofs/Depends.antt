-- A refusal at line k depends on lines 1 to k alone.
use Rattle.std.proofs.Common.{◌≡◌, ℕ, zero, suc, ◌+◌, ◌-◌, ◌≤◌, Bool, true, false, cond, eqb, List, [], ◌∷◌, ◌++◌, length, Some, None, Ok, Err, Option, sym, refl, ap, ◌∙◌, subst, arith}
use Rattle.std.proofs.lemmas.Bool.{ne_eqb}
use Rattle.passages.specs.Fields.{serial_of, fits_after}
use Rattle.fields.specs.Decimals.{number_of}
use Rattle.fields.specs.Hex.{read_hex}
use Rattle.fields.specs.Faults.{Read, at_line, not_of_form, number_at, bytes_at}
use Rattle.text_laws.specs.Lines.{LineFields, roll_line, chain_line, pass_line, first_line}
use Rattle.text_laws.specs.Values.{Numbers, then_read, are_valid, numbers_of, chain_of, passage_of}
use Rattle.text_laws.specs.Saved.{saved, line_at, passages, read_text}
use Rattle.text_laws.specs.FirstLines.{first_lines}
use Rattle.text_laws.specs.Laws.{Depends}
use Rattle.text_laws.proofs.Inverts.{err_inj}
use Rattle.text_laws.proofs.FirstLines.{Agree, lines_agree}

-- r is refused at line k, if at all
abbrev pub At : {X : Type 0} → ℕ → Read X → Type 0
At k r = (e : ℕ × ℕ) → r ≡ Err e → e.1 ≡ k

at_own : {X : Type 0} (n k : ℕ) → At {X = X} k (Err (n, k))
at_own n k e h = sym (ap (λ (f : ℕ × ℕ). f.1) (err_inj (n, k) e h))

at_field : {X : Type 0} (k : ℕ) (o : Option X) → At k (at_line k o)
at_field k (Some x) e h = absurd cc
at_field k None e h = at_own 14 k e h

at_then : {X Y : Type 0} (k : ℕ) (r : Read X) (f : X → Read Y) → At k r → ((x : X) → At k (f x)) → At k (then_read r f)
at_then k (Ok x) f a b e h = b x e h
at_then k (Err g) f a b e h = ap (λ (f : ℕ × ℕ). f.1) (sym (err_inj g e h)) ∙ a g refl

pub at_cond : {X : Type 0} (n k : ℕ) (b : Bool) (x : X) → At k (cond b (Ok x) (Err (n, k)))
at_cond n k true x e h = absurd cc
at_cond n k false x e h = at_own n k e h

pub at_numbers : (k : ℕ) (l : LineFields) → At k (numbers_of k l)
at_numbers k (roll_line a b c d e) =
    at_then k (number_at k a) _ (at_field k (number_of a)) (λ size.
    at_then k (number_at k b) _ (at_field k (number_of b)) (λ shipped.
    at_then k (number_at k c) _ (at_field k (number_of c)) (λ last.
    at_then k (number_at k d) _ (at_field k (number_of d)) (λ cents.
    at_then k (number_at k e) _ (at_field k (number_of e)) (λ window.
    let n : Numbers = record { size = size; shipped = shipped; last = last; cents = cents; window = window } in
    at_cond 15 k (are_valid n) n)))))
at_numbers k (chain_line h) = at_own 14 k
at_numbers k (pass_line h) = at_own 14 k

pub at_chain : (k : ℕ) (l : LineFields) → At k (chain_of k l)
at_chain k (roll_line a b c d e) = at_own 14 k
at_chain k (chain_line h) = at_field k (read_hex 128 h)
at_chain k (pass_line h) = at_own 14 k

pub at_passage : (k before : ℕ) (l : LineFields) → At k (passage_of k before l)
at_passage k before (roll_line a b c d e) = at_own 14 k
at_passage k before (chain_line h) = at_own 14 k
at_passage k before (pass_line h) = at_then k (bytes_at k 64 h) _ (at_field k (read_hex 64 h)) (λ m. at_cond 15 k (fits_after before m) m)

pub at_first : {X : Type 0} (k : ℕ) (f : LineFields → Read X) → ((l : LineFields) → At k (f l)) → (o : Option (LineFields × List ℕ)) → At k (line_at k f o)
at_first k f a None = at_own 14 k
at_first {X = X} k f a (Some p) = at_then {Y = X × List ℕ} k (f p.0) (λ x. Ok (x, p.1)) (a p.0) (λ x e h. absurd cc)

-- a reader of a text from line k on: a refusal stands at line k or later, and every text with the same lines up to it gets it
abbrev Late : {X : Type 0} → ℕ → (List ℕ → Read X) → Type 0
Late k R = (t : List ℕ) (e : ℕ × ℕ) → R t ≡ Err e → (k ≤ e.1) × ((u : List ℕ) → first_lines (suc (e.1 - k)) t ≡ first_lines (suc (e.1 - k)) u → R u ≡ Err e)

low_then : {X Y : Type 0} (k : ℕ) (r : Read (X × List ℕ)) (G : X → List ℕ → Read Y) (e : ℕ × ℕ) → At k r → ((x : X) (t : List ℕ) → G x t ≡ Err e → k + 1 ≤ e.1)
    → then_read r (λ p. G p.0 p.1) ≡ Err e → k ≤ e.1
low_then k (Ok p) G e a b h = let l = b p.0 p.1 h in omega (arith, l)
low_then k (Err f) G e a b h = let l = a f refl in let m = ap (λ (g : ℕ × ℕ). g.1) (err_inj f e h) in omega (arith, l, m)

agree_then : {X Y : Type 0} (n : ℕ) (r s : Read (X × List ℕ)) (G : X → List ℕ → Read Y) (e : ℕ × ℕ) → Agree n r s
    → ((x : X) (t u : List ℕ) → first_lines n t ≡ first_lines n u → G x t ≡ Err e → G x u ≡ Err e)
    → then_read r (λ p. G p.0 p.1) ≡ Err e → then_read s (λ p. G p.0 p.1) ≡ Err e
agree_then n (Ok p) (Ok q) G e a go h = ap (λ x. G x q.1) (sym a.0) ∙ go p.0 p.1 q.1 a.1 h
agree_then n (Ok p) (Err g) G e a go h = absurd a
agree_then n (Err f) (Ok q) G e a go h = absurd a
agree_then {Y = Y} n (Err f) (Err g) G e a go h = let F : ℕ × ℕ → Read Y = λ d. Err d in ap F (sym a) ∙ h

late_line : {X Y : Type 0} (k : ℕ) (f : LineFields → Read X) (G : X → List ℕ → Read Y) → ((l : LineFields) → At k (f l)) → ((x : X) → Late (k + 1) (G x))
    → Late k (λ t. then_read (line_at k f (first_line t)) (λ p. G p.0 p.1))
late_line k f G a late t e h =
    let low = low_then k (line_at k f (first_line t)) G e (at_first k f a (first_line t)) (λ x v g. (late x v e g).0) h in (
      low,
      λ u same.
          agree_then (e.1 - k) (line_at k f (first_line t)) (line_at k f (first_line u)) G e (lines_agree (e.1 - k) k f t u same)
          (λ x v w alike g.
          let l = late x v e g in
          let b = l.0 in
          let m : e.1 - k ≡ suc (e.1 - (k + 1)) = omega (arith, b) in
          let P : ℕ → Type 0 = λ n. first_lines n v ≡ first_lines n w in
          l.1 w (subst P m alike))
          h,
    )

-- nothing may be left
some_left : {X : Type 0} (k : ℕ) (x : X) (b : ℕ) (t : List ℕ) → cond (eqb (length (b ∷ t)) 0) (Ok x) (not_of_form k) ≡ Err (14, k)
some_left {X = X} k x b t = ap (λ c. cond {A = Read X} c (Ok x) (not_of_form k)) (ne_eqb (length (b ∷ t)) 0 (λ z. omega (arith, z)))

late_end : {X : Type 0} (k : ℕ) (x : X) → Late k (λ t. cond (eqb (length t) 0) (Ok x) (not_of_form k))
late_end k x [] e h = absurd cc
late_end k x (b ∷ t) e h =
    let own = sym (some_left k x b t) ∙ h in
    let m = ap (λ (g : ℕ × ℕ). g.1) (err_inj (14, k) e own) in (
      omega (arith, m),
      λ u. elim u as (λ v. first_lines (suc (e.1 - k)) (b ∷ t) ≡ first_lines (suc (e.1 - k)) v → cond (eqb (length v) 0) (Ok x) (not_of_form k) ≡ Err e)
          [ [] ↦ λ s. let z : ◌≡◌ {A = ℕ} 0 1 = cc in absurd (omega arith) | c ∷ w ↦ λ s. some_left k x c w ∙ own ],
    )

late_passages : (n k before : ℕ) (got : List (List ℕ)) → Late k (passages n k before got)
late_passages zero k before got = late_end k got
late_passages (suc n) k before got =
    late_line k (passage_of k before) (λ m. passages n (k + 1) (serial_of m) (got ++ (m ∷ []))) (at_passage k before) (λ m. late_passages n (k + 1) (serial_of m) (got ++ (m ∷ [])))

pub read_err : {X Y : Type 0} (r : Read X) (f : X → Y) (e : ℕ × ℕ) → then_read {Y = Y} r (λ x. Ok (f x)) ≡ Err e → r ≡ Err e
read_err {X = X} (Err g) f e h = let F : ℕ × ℕ → Read X = λ d. Err d in ap F (err_inj g e h)
read_err (Ok x) f e h = absurd cc

late_then : {X Y : Type 0} (k : ℕ) (R : List ℕ → Read X) (f : X → Y) → Late k R → Late k (λ t. then_read {Y = Y} (R t) (λ x. Ok (f x)))
late_then {Y = Y} k R f late t e h =
    let l = late t e (read_err (R t) f e h) in
    (l.0, λ u same. ap (λ r. then_read {Y = Y} r (λ x. Ok (f x))) (l.1 u same))

late_text : Late 1 read_text
late_text =
    late_line 1 (numbers_of 1) _ (at_numbers 1) (λ n.
    late_line 2 (chain_of 2) (λ c t. then_read (passages n.window 3 n.last [] t) (λ w. Ok (saved n c w))) (at_chain 2) (λ c.
    late_then 3 (passages n.window 3 n.last []) (saved n c) (late_passages n.window 3 n.last [])))

pub text_depends : (t : List ℕ) (e : ℕ × ℕ) → read_text t ≡ Err e → (1 ≤ e.1) × Depends t e
text_depends t e h =
    let l = late_text t e h in
    let b = l.0 in
    let m : e.1 ≡ suc (e.1 - 1) = omega (arith, b) in
    (l.0, λ u same. l.1 u (ap (λ n. first_lines n t) (sym m) ∙ sym same ∙ ap (λ n. first_lines n u) m))
