use Rattle.std.proofs.Common.{is_ok, ap, ◌∙◌, arith}
use Rattle.std.proofs.lemmas.List.{length-take-le}
use Rattle.replay.proofs.turn.save.Goals as goal

pub invariant_of-result : goal.invariant_of-result
invariant_of-result g c =
    let t = c.in_ok-len.ensures.text in
    record { wide = c.save_into.array_long; within = t.0; valid = ap is_ok t.2 }

pub returns-clause-text : goal.returns-clause-text
returns-clause-text g c =
    let n = c.in_ok-len.len in
    let t = c.in_ok-len.ensures.text in
    (t.2, length-take-le n c.save_into.new.bytes (omega (arith, t.0, c.save_into.array_long)) ∙ t.1)
