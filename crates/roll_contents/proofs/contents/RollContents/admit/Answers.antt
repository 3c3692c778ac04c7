use Rattle.std.proofs.Common.{◌≡◌, ◌<◌, length, ap₂, sym, ◌∙◌, rules, arith}
use Rattle.std.proofs.lemmas.Result.{IfOk-weaker}
use Rattle.passages.specs.Fields.{fits_after}
use Rattle.passages.specs.Laws.{Decodes}
use Rattle.window.proofs.Held.{length_listed}
use Rattle.roll_contents.specs.Contents.{contents_of, Admits}
use Rattle.roll_contents.proofs.contents.RollContents.admit.Goals as goal

pub returns-clause-taken : goal.returns-clause-taken
returns-clause-taken c =
    let k = contents_of c.args.self.now in
    let m = c.args.bytes.now in
    let same : c.in_ok-block.block.now ≡ m = search rules in
    let long : length m ≡ 64 = search rules in
    let few = c.args.self.now.window.few in
    let held = length_listed c.args.self.now.window in
    let room : length k.window < 32 = search rules in
    let last = c.last_serial-last.ensures in
    IfOk-weaker c.decode_after.result (Decodes c.last_serial-last.result c.in_ok-block.block.now) (Admits k m)
    (λ p d.
    record {
      bytes = d.bytes ∙ same;
      wide = search rules;
      room = room;
      standing = omega arith;
      fits = ap₂ fits_after (sym last) (sym same) ∙ d.fits;
    })
    c.decode_after.ensures.value
