-- The report of a message, line by line.
use Rattle.std.proofs.Common.{◌≡◌, ℕ, ◌+◌, ◌*◌, ◌/◌, ◌^◌, ◌<◌, ◌≤◌, Bool, ltb, List, [], ◌∷◌, ◌++◌, length, take, drop, decimal, Ok, Err, Result, refl, ap, ◌∙◌, ap₂, arith, MatchResult}
use Rattle.std.specs.Fmt.{digits}
use Rattle.std.proofs.lemmas.List.{length-append, length-drop, take_at}
use Rattle.std.proofs.lemmas.Bool.{cond-true, cond-false, lt-ltb, le-ltb}
use Rattle.refusals.specs.declared.refusal.Refusal.{Refusal}
use Rattle.refusals.specs.declared.size.DigestSize.{DigestSize}
use Rattle.refusals.specs.declared.size.DigestSize.TheVariants.{D224, D256, D384, D512}
use Rattle.refusals.specs.Sizes.{bits_in}
use Rattle.refusals.specs.Refusals.{outcome, buffer_refusal}
use Rattle.refusals.proofs.Numbers.{positive}
use Rattle.refusals.proofs.Sizes.{digest_short, room_enough}
use Rattle.fields.specs.Hex.{hex_of}
use Rattle.fields.proofs.Texts.{then_part, length_hex}
use Rattle.jh.specs.Message.{bits_of}
use Rattle.jh.specs.Jh.{jh, jh_over, MeansE8}
use Rattle.jh.proofs.Means.{means_jh}
use Rattle.jh_digest.specs.Stands.{Writes}
use Rattle.jh_digest.specs.declared.feeder.JhFeeder.{JhFeeder}
use Rattle.summary.specs.Fed.{Holds}
use Rattle.summary.specs.Report.{refusal_line, line, lines, report_of, Adds, AddsLines}

-- a call whose outcome is 0 was accepted
accepted : {T : Type 0} (r : Result T Refusal) (A : Type 0) (B : Refusal → Type 0) → outcome r ≡ 0 → MatchResult r (λ _. A) B → A
accepted (Ok x) A B e c = c
accepted (Err d) A B e c = absurd (let no : ⊥ = omega (arith, positive d) in no)

pub three_digits : (s : DigestSize) → length (decimal (bits_in s)) ≡ 3
unfolding digits
three_digits D224 = refl
three_digits D256 = refl
three_digits D384 = refl
three_digits D512 = refl

-- a feeder that is finished into 64 bytes writes the whole digest, and that has as many bytes as its size
module _ {P : Type 0} (image : P → List ℕ → List ℕ) (p : P) (m : List ℕ) (s : DigestSize) (f : JhFeeder P) (held : Holds image p m s f) where
  abbrev digest : List ℕ
  digest = jh_over (image p) (bits_in s) (bits_of m)

  pub finished : {T : Type 0} (r : Result T Refusal) (z d : List ℕ) → length z ≡ 64 → length d ≡ 64
      → outcome r ≡ buffer_refusal 64 (bits_in f.feeder.size / 8)
      → MatchResult r (λ _. Writes image (jh_over (image f.feeder.press.permutation)) f z d) (λ _. d ≡ z)
      → (length digest ≡ bits_in s / 8) × (take (bits_in s / 8) d ≡ digest)
  finished r z d lz ld answer written =
      let w = accepted r (Writes image (jh_over (image f.feeder.press.permutation)) f z d) (λ _. d ≡ z) (answer ∙ room_enough f.feeder.size) written in
      let e : d ≡ digest ++ drop (bits_in s / 8) z =
      w m held.stands
      ∙ ap₂ (λ (q : P) (t : DigestSize). jh_over (image q) (bits_in t) (bits_of m) ++ drop (bits_in t / 8) z) held.permutation held.size in
      let l : length digest ≡ bits_in s / 8 = omega (arith, digest_short s, ap length e, length-append digest (drop (bits_in s / 8) z), length-drop (bits_in s / 8) z) in
      (l, ap (take (bits_in s / 8)) e ∙ take_at digest (drop (bits_in s / 8) z) (bits_in s / 8) l)

-- the parts of a line, and of the whole report, one after the other
module _ (digest : ℕ → List Bool → List ℕ) (m : List ℕ) where
  pub length_line : (size : ℕ) → length (decimal size) ≡ 3 → length (digest size (bits_of m)) ≡ size / 8 → length (line digest size m) ≡ 2 * (size / 8) + 5
  length_line size e f =
      let x : List ℕ = hex_of (digest size (bits_of m)) in
      omega (arith, length-append (decimal size) (9 ∷ (x ++ (10 ∷ []))), length-append x (10 ∷ []), length_hex (digest size (bits_of m)))

  pub four_lines : (o a b c d : List ℕ) → Adds digest 224 m o a → Adds digest 256 m a b → Adds digest 384 m b c → Adds digest 512 m c d → AddsLines digest m o d
  four_lines o a b c d p q r s =
      let l1 : List ℕ = line digest 224 m in
      let l2 : List ℕ = line digest 256 m in
      let l3 : List ℕ = line digest 384 m in
      let l4 : List ℕ = line digest 512 m in
      record {
        long = omega (arith, p.long, q.long, r.long, s.long, length-append l1 (l2 ++ (l3 ++ l4)), length-append l2 (l3 ++ l4), length-append l3 l4);
        text = then_part 364 o a d l1 (l2 ++ (l3 ++ l4)) p.text (then_part 364 a b d l2 (l3 ++ l4) q.text (then_part 364 b c d l3 l4 r.text s.text));
      }

  pub refusal_reported : 2 ^ 40 < length m → report_of digest m ≡ refusal_line
  unfolding report_of
  refusal_reported h = cond-true (ltb (2 ^ 40) (length m)) refusal_line (lines digest m) (lt-ltb (2 ^ 40) (length m) h)

  pub lines_reported : length m ≤ 2 ^ 40 → report_of digest m ≡ lines digest m
  unfolding report_of
  lines_reported h = cond-false (ltb (2 ^ 40) (length m)) refusal_line (lines digest m) (le-ltb (2 ^ 40) (length m) h)

-- over a permutation that means E8, the report of JH
pub report_jh : (f : List ℕ → List ℕ) → MeansE8 f → (m : List ℕ) → report_of (jh_over f) m ≡ report_of jh m
unfolding report_of
report_jh f e m =
    let b : List Bool = bits_of m in
    let p = means_jh f e 224 b in
    let q = means_jh f e 256 b in
    let r = means_jh f e 384 b in
    let s = means_jh f e 512 b in
    cc
