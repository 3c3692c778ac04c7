use Rattle.std.proofs.Common.{◌≡◌, ◌<◌, length, get_or, ap, ◌∙◌, rules, arith}
use Rattle.passages.specs.Coding.{encoded}
use Rattle.passages.specs.Rows.{encoded_all}
use Rattle.window.proofs.Shifts.{rotated, map_removed}
use Rattle.window.proofs.Held.{blank, length_held, length_listed, encoded_held}
use Rattle.window.proofs.window.Window.remove.Goals as goal

pub returns : goal.returns
returns c =
    let w = c.args.self.now in
    let i = c.args.i in
    let ps = c.as_slice.result.now in
    let p = c.in_ok-taken.field-0.now in
    let long = length_held w ps c.as_slice.ensures in
    let count = length_listed w in
    let few = w.few in
    let all = w.long in
    let l : i < length ps = search rules in
    let e : p ≡ get_or ps i p = search rules in (
      omega arith,
      ap encoded e ∙ encoded_held w ps c.as_slice.ensures i p l,
      ap encoded_all (rotated w.places c.rotate_left.new.self i w.count blank (omega arith) (omega arith) c.rotate_left.ensures.after) ∙ map_removed encoded _ i,
    )
