use Rattle.std.proofs.Common.{[], ◌∷◌, ◌++◌, take, ap, ◌∙◌, arith, length-append}
use Rattle.std.proofs.lemmas.List.{take_all}
use Rattle.answers.specs.Said.{capacity, said, fields_of}
use Rattle.answers.proofs.answer.LineAnswer.line.Goals as goal

pub returns : goal.returns
returns c =
    let f = fields_of (said c.args.self.now) in
    let l = length-append (fields_of (said c.args.self.now)) (10 ∷ []) in
    let room = c.fields-text.ensures.room in
    c.push.ensures ∙ ap (λ t. take capacity (t ++ (10 ∷ []))) c.fields-text.ensures.bytes ∙ take_all capacity (f ++ (10 ∷ [])) (omega (arith, l, room))
