use Rattle.std.proofs.Common.{arith}
use Rattle.text_laws.specs.Valid.{Valid}
use Rattle.text_laws.specs.Written.{text_of}
use Rattle.window.proofs.Held.{length_listed}
use Rattle.roll_contents.specs.Contents.{contents_of}
use Rattle.roll_contents.specs.Texts.{saved_by}
use Rattle.roll_contents.proofs.Texts.{sized, short_text, saved_answer}
use Rattle.roll_contents.proofs.contents.RollContents.write.Goals as goal

pub returns : goal.returns
returns c =
    let k = c.args.self.now in
    let s = saved_by c.args.seal.now (contents_of k) in
    let w = c.write.ensures in
    let n = length_listed k.window in
    let few = k.window.few in
    let a = k.shipped.paid in
    let b = k.shipped.fresh in
    let v : Valid s =
    record {
      size = sized k.size;
      few = omega arith;
      most = k.standing;
      high = k.shipped.high;
      risen = k.shipped.serials;
      fresh = λ z. (omega arith, omega arith);
      paid = k.shipped.paid;
      chain = w.wide.chain;
      blocks = w.wide.blocks;
      order = k.order;
    } in
    record {
      answer = saved_answer c.write.result c.args.out.now c.write.new.out (text_of s) _ w.text w.wide.long;
      text = record { text = w.text; long = w.wide.long; most = short_text s v; valid = v };
    }
