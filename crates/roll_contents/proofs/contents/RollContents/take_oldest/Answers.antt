use Rattle.std.proofs.Common.{◌≡◌, ℕ, true, [], length, get_or, drop, sym, ap, ◌∙◌, arith}
use Rattle.std.proofs.lemmas.List.{length-drop}
use Rattle.passages.specs.Fields.{serial_of, charged_of}
use Rattle.passages.specs.Rows.{in_order}
use Rattle.passages.proofs.Encodings.{serial_encoded, charged_encoded}
use Rattle.passages.proofs.Order.{in_order_rest}
use Rattle.window.specs.Listed.{listed}
use Rattle.roll_contents.proofs.contents.RollContents.take_oldest.Goals as goal

pub take_one-requires-clause-risen : goal.take_one-requires-clause-risen
take_one-requires-clause-risen c =
    let k = c.args.self.now in
    let ms = listed k.window in
    let p = c.in_ok-passage.passage in
    let e = c.in_ok-passage.ensures in
    let above = (in_order_rest k.shipped.last ms e.0 k.order).0 in
    let serial : p.serial ≡ serial_of (get_or ms 0 []) = sym (serial_encoded p (omega arith)) ∙ ap serial_of e.1 in
    omega arith

pub invariant_of-self-2 : goal.invariant_of-self-2
invariant_of-self-2 c =
    let k = c.args.self.now in
    let ms = listed k.window in
    let p = c.in_ok-passage.passage in
    let e = c.in_ok-passage.ensures in
    let t = c.take_one.ensures in
    let serial : c.take_one.new.self.last ≡ serial_of (get_or ms 0 []) = t.last ∙ sym (serial_encoded p (omega arith)) ∙ ap serial_of e.1 in
    let n = ap length e.2 ∙ length-drop 1 ms in
    let l = e.0 in
    let s = k.standing in
    let count = t.count in
    let order : in_order c.take_one.new.self.last (listed c.remove.new.self) ≡ true =
    ap (in_order c.take_one.new.self.last) e.2 ∙ ap (λ (j : ℕ). in_order j (drop 1 ms)) serial ∙ (in_order_rest k.shipped.last ms e.0 k.order).1 in
    record { standing = omega arith; order = order }

pub returns : goal.returns
returns c =
    let k = c.args.self.now in
    let ms = listed k.window in
    let p = c.in_ok-passage.passage in
    let e = c.in_ok-passage.ensures in
    let t = c.take_one.ensures in
    let serial : c.take_one.new.self.last ≡ serial_of (get_or ms 0 []) = t.last ∙ sym (serial_encoded p (omega arith)) ∙ ap serial_of e.1 in
    let charged : p.charged ≡ charged_of (get_or ms 0 []) = sym (charged_encoded p (omega arith)) ∙ ap charged_of e.1 in
    (e.1, e.0, cc (t.count, t.cents, serial, charged, e.2))
