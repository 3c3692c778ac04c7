use Rattle.std.proofs.Common.{◌≡◌, ℕ, ◌/◌, List, [], ◌∷◌, ◌++◌, take, decimal, refl, ap, ◌∙◌, ap₂, arith}
use Rattle.fields.specs.Hex.{hex_of}
use Rattle.fields.proofs.Texts.{then_part}
use Rattle.jh.specs.Jh.{jh_over}
use Rattle.jh.specs.Message.{bits_of}
use Rattle.refusals.specs.declared.size.DigestSize.{DigestSize}
use Rattle.refusals.specs.Sizes.{bits_in}
use Rattle.summary.proofs.Reported.{three_digits, finished, length_line}
use Rattle.summary.proofs.feeders.push_line.Goals as goal

pub returns : goal.returns
returns g c = λ p m s h.
    let n = bits_in s in
    let d = c.finish.new.out in
    let f = finished g.P.Permutation.image p m s c.args.feeder.now h c.finish.result _ d refl (omega arith) c.finish.ensures.answer c.finish.ensures.written in
    let x : List ℕ = jh_over (g.P.Permutation.image p) n (bits_of m) in
    let z : c.size-size.result ≡ s = c.size-size.ensures ∙ h.size in
    let e : take c.bytes.result d ≡ x = ap (λ (j : ℕ). take j d) (c.bytes.ensures ∙ ap (λ (t : DigestSize). bits_in t / 8) z) ∙ f.1 in
    let o : List ℕ = c.args.text.now in
    let t1 : List ℕ = c.push_number.new.self in
    let t2 : List ℕ = c.push.new.self in
    let t3 : List ℕ = c.push_hex.new.self in
    let t4 : List ℕ = c.push-2.new.self in
    let y : List ℕ = hex_of (take c.bytes.result d) in
    let w : List ℕ = decimal c.from.result in
    let all : t4 ≡ take 364 (o ++ (w ++ (9 ∷ (y ++ (10 ∷ []))))) =
    then_part 364 o t1 t4 w (9 ∷ (y ++ (10 ∷ []))) c.push_number.ensures
    (then_part 364 t1 t2 t4 (9 ∷ []) (y ++ (10 ∷ [])) c.push.ensures
    (then_part 364 t2 t3 t4 y (10 ∷ []) c.push_hex.ensures c.push-2.ensures)) in
    record {
      long = length_line (jh_over (g.P.Permutation.image p)) m n (three_digits s) f.0;
      text = all ∙ ap₂ (λ (j : ℕ) (u : List ℕ). take 364 (o ++ (decimal j ++ (9 ∷ (hex_of u ++ (10 ∷ [])))))) (c.from.ensures ∙ c.bits.ensures ∙ ap bits_in z) e;
    }
