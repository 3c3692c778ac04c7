use Rattle.std.proofs.Common.{◌≡◌, true, length, ap, ◌∙◌, arith}
use Rattle.std.specs.List.{remove}
use Rattle.passages.specs.Rows.{in_order}
use Rattle.passages.proofs.Order.{in_order_removed}
use Rattle.window.specs.Listed.{listed}
use Rattle.window.proofs.Changes.{taken_out, removed_few}
use Rattle.roll_contents.proofs.contents.RollContents.take_out.Goals as goal

pub invariant_of-self : goal.invariant_of-self
invariant_of-self c =
    let k = c.args.self.now in
    let ms = listed k.window in
    let new : listed c.remove.new.self ≡ remove ms c.args.i = taken_out ms c.args.i _ c.remove.result c.remove.ensures in
    let n = ap length new in
    let few = removed_few ms c.args.i in
    let s = k.standing in
    let order : in_order k.shipped.last (listed c.remove.new.self) ≡ true =
    ap (in_order k.shipped.last) new ∙ in_order_removed k.shipped.last ms c.args.i k.order in
    record { standing = omega arith; order = order }
