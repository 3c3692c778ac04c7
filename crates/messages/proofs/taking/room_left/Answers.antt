use Rattle.std.proofs.Common.{[], arith}
use Rattle.std.proofs.lemmas.List.Folds.{length-flat_map-take}
use Rattle.messages.proofs.taking.room_left.Goals as goal

pub returns-in_err-left : goal.returns-in_err-left
returns-in_err-left c =
    let l = length-flat_map-take (λ x. x.now) c.args.parts.now c.loop-part.part-index (record { ref_ptr = (0, 0); now = [] }) (omega arith) in
    let i = c.loop-part.invariant in
    let e = c.in_err-left.ensures in
    grind (arith, l, i, e)
