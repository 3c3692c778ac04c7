use Rattle.std.proofs.Common.{◌≡◌, true, [], ◌∷◌, ◌++◌, length, ap, ◌∙◌, arith}
use Rattle.std.proofs.lemmas.List.{length_push}
use Rattle.passages.specs.Coding.{encoded}
use Rattle.passages.specs.Fields.{fits_after}
use Rattle.passages.specs.Rows.{in_order, last_serial}
use Rattle.passages.proofs.Order.{in_order_push}
use Rattle.window.specs.Listed.{listed}
use Rattle.window.proofs.Changes.{pushed_in}
use Rattle.roll_contents.proofs.contents.RollContents.enter.Goals as goal

pub invariant_of-self : goal.invariant_of-self
invariant_of-self c =
    let k = c.args.self.now in
    let ms = listed k.window in
    let p = c.in_ok-passage.passage in
    let a = c.in_ok-passage.ensures.taken in
    let new : listed c.push.new.self ≡ ms ++ encoded p ∷ [] = pushed_in ms (encoded p) (listed c.push.new.self) c.push.result a.room c.push.ensures in
    let n = ap length new ∙ length_push ms (encoded p) in
    let s = a.standing in
    let fits : fits_after (last_serial k.shipped.last ms) (encoded p) ≡ true = ap (fits_after (last_serial k.shipped.last ms)) a.bytes ∙ a.fits in
    let order : in_order k.shipped.last (listed c.push.new.self) ≡ true =
    ap (in_order k.shipped.last) new ∙ in_order_push k.shipped.last ms (encoded p) k.order fits in
    record { standing = omega arith; order = order }
