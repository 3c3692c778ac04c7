use Rattle.std.proofs.Common.{◌≡◌, ◌-◌, ◌/◌, [], ◌∷◌, ◌++◌, take, codes, decimal, refl, ap, ◌∙◌, arith, length-append}
use Rattle.std.proofs.lemmas.Fmt.{length-decimal-le}
use Rattle.std.proofs.lemmas.List.{length-take-le}
use Rattle.refusals.specs.Refusals.{number}
use Rattle.refusals.specs.Sizes.{bits_in}
use Rattle.fields.specs.Hex.{hex_of}
use Rattle.fields.proofs.Texts.{then_part, length_hex}
use Rattle.answers.specs.Said.{capacity}
use Rattle.answers.specs.declared.answer.LineAnswer.TheVariants.{Refused, Shipped, Closed, Total}
use Rattle.answers.proofs.Fields.{tells}
use Rattle.refusals.proofs.Sizes.{digest_short}
use Rattle.answers.proofs.answer.LineAnswer.fields.Goals as goal

pub returns-in-Refused : goal.returns-in-Refused
returns-in-Refused c =
    let e = c.in-Refused.refusal in
    let n = c.from-in-Refused.ensures ∙ c.from.ensures in
    let said = c.from.ensures in
    let few = length-decimal-le 20 (number e) (omega arith) (omega (arith, said)) (omega (arith, said)) in
    tells c.args.self.now (Refused e) (codes "refused" ++ (9 ∷ [])) (decimal (number e)) c.new-text.result c.push-in-Refused.new.self c.push_number.new.self c.in-Refused.is refl (omega (arith, few))
    c.new-text.ensures c.push-in-Refused.ensures (c.push_number.ensures ∙ ap (λ k. take capacity (c.push-in-Refused.new.self ++ decimal k)) n)

pub returns-in-Shipped : goal.returns-in-Shipped
returns-in-Shipped c =
    let m = c.in-Shipped.passage in
    let l = length_hex c.in-Shipped.passage in
    tells c.args.self.now (Shipped m) (codes "shipped" ++ (9 ∷ [])) (hex_of m) c.new-text.result c.push-in-Shipped.new.self c.push_hex.new.self c.in-Shipped.is refl (omega (arith, l))
    c.new-text.ensures c.push-in-Shipped.ensures c.push_hex.ensures

pub returns-in-Closed : goal.returns-in-Closed
returns-in-Closed c =
    let s = c.in-Closed.size in
    let d = c.in-Closed.digest in
    let n = bits_in c.in-Closed.size / 8 in
    let short = digest_short c.in-Closed.size in
    let e : c.bytes.result - 0 ≡ bits_in c.in-Closed.size / 8 = omega arith in
    let l = length_hex (take (bits_in c.in-Closed.size / 8) c.in-Closed.digest) in
    let m = length-take-le (bits_in c.in-Closed.size / 8) c.in-Closed.digest (omega (arith, short)) in
    tells c.args.self.now (Closed s d) (codes "closed" ++ (9 ∷ [])) (hex_of (take n d)) c.new-text.result c.push-in-Closed.new.self c.push_hex-in-Closed.new.self c.in-Closed.is refl (omega (arith, l, m, short))
    c.new-text.ensures c.push-in-Closed.ensures (c.push_hex-in-Closed.ensures ∙ ap (λ k. take capacity (c.push-in-Closed.new.self ++ hex_of (take k d))) e)

pub returns-in-Total : goal.returns-in-Total
returns-in-Total c =
    let cents = decimal c.in-Total.cents in
    let count = decimal c.in-Total.count in
    let p = length-decimal-le 20 c.in-Total.cents (omega arith) (omega arith) (omega arith) in
    let q = length-decimal-le 20 c.in-Total.count (omega arith) (omega arith) (omega arith) in
    let l = length-append (decimal c.in-Total.cents) (9 ∷ decimal c.in-Total.count) in
    let w1 = c.push-in-Total.new.self in
    let w2 = c.push_number-in-Total.new.self in
    let w3 = c.push-in-Total-2.new.self in
    let w4 = c.push_number-in-Total-2.new.self in
    let last = c.push_number-in-Total-2.ensures ∙ ap (λ n. take capacity (w3 ++ decimal n)) c.from-in-Total.ensures in
    tells c.args.self.now (Total c.in-Total.cents c.in-Total.count) (codes "total" ++ (9 ∷ [])) (cents ++ (9 ∷ count)) c.new-text.result c.push-in-Total.new.self c.push_number-in-Total-2.new.self c.in-Total.is refl
    (omega (arith, p, q, l)) c.new-text.ensures c.push-in-Total.ensures
    (then_part capacity w1 w2 w4 cents (9 ∷ count) c.push_number-in-Total.ensures (then_part capacity w2 w3 w4 (9 ∷ []) count c.push-in-Total-2.ensures last))
