-- A passage that is refused may not stand.
use Rattle.std.proofs.Common.{◌≡◌, ℕ, ◌≤◌, Bool, true, false, ◌&&◌, ltb, List, Ok, Err, Result, arith}
use Rattle.std.specs.Prelude.{IfOk, MatchResult}
use Rattle.std.specs.Result.{IsErrAnd}
use Rattle.std.proofs.lemmas.Result.{err_from_is_err_and}
use Rattle.std.proofs.lemmas.Bool.Decides.{nat_tests}
use Rattle.refusals.specs.Refusals.{number, next_refusal, outcome}
use Rattle.refusals.specs.declared.refusal.Refusal.{Refusal}
use Rattle.refusals.specs.declared.refusal.Refusal.TheVariants.{Values}
use Rattle.refusals.proofs.Numbers.{positive}
use Rattle.passages.specs.Fields.{serial_of, formed, priced, fits_after}
use Rattle.passages.specs.Laws.{refused_after, Decodes}
use Rattle.passages.specs.Coding.{encoded}
use Rattle.passages.specs.declared.passage.Passage.{Passage}
use Rattle.fields.specs.Faults.{bytes_at}
use Rattle.text_laws.specs.Lines.{pass_line}
use Rattle.text_laws.specs.Values.{passage_of}
use Rattle.saved_text.specs.declared.line.LineFault.{LineFault}

tested : (last serial n : ℕ) (f p : Bool) → 1 ≤ n → n ≡ next_refusal last serial f p → (ltb last serial && (f && p)) ≡ false
tested last serial n true true l e = grind (arith, nat_tests)
tested last serial n true false l e = grind (arith, nat_tests)
tested last serial n false true l e = grind (arith, nat_tests)
tested last serial n false false l e = grind (arith, nat_tests)

unfit : (last : ℕ) (m : List ℕ) (e : Refusal) → number e ≡ refused_after last m → fits_after last m ≡ false
unfit last m e h = tested last (serial_of m) (number e) (formed m) (priced m) (positive e) h

-- a passage decoded from the bytes of a line, or the refusal of its values in place of the one that it is refused by
pub told : (k last : ℕ) (h m : List ℕ) (r : Result Passage Refusal) (x : Result Passage LineFault) {Q : Refusal → LineFault → Type 0} → bytes_at k 64 h ≡ Ok m → outcome r ≡ refused_after last m → IfOk r (Decodes last m)
    → MatchResult r (λ p. x ≡ Ok p) (λ e. IsErrAnd x (Q e)) → ((e : Refusal) (f : LineFault) → Q e f → (f.refusal ≡ Values) × (f.line ≡ k))
    → MatchResult x (λ p. (passage_of k last (pass_line h) ≡ Ok (encoded p)) × (p.serial ≡ serial_of (encoded p))) (λ f. passage_of k last (pass_line h) ≡ Err (number f.refusal, f.line))
told k last h m (Ok p) x b a d c q =
    let f = d.fields in
    let e = d.bytes in
    let t = d.fits in
    rw c (grind (arith, b, f, e, t))
told k last h m (Err e) x b a d c q =
    let p = err_from_is_err_and x c in
    let v = q e p.0 p.2 in
    let n = unfit last m e a in
    rw p.1 (grind (arith, b, n, v.0, v.1))
