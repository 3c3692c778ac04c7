use Rattle.std.proofs.Common.{◌≡◌, ◌++◌, length, take, ap, ◌∙◌, subst, arith}
use Rattle.std.specs.List.{AllByRecursion}
use Rattle.byte_strings.specs.Bytes.{Bytes}
use Rattle.passages.specs.Rows.{encoded_all}
use Rattle.window.proofs.Held.{length_listed}
use Rattle.text_laws.specs.Written.{numbers_told, numbers_text}
use Rattle.text_laws.proofs.Long.{wide, length_numbers}
use Rattle.saved_text.specs.Snapshots.{capacity, saved_in}
use Rattle.saved_text.proofs.Parts.{text_parts}
use Rattle.saved_text.proofs.snapshot.Snapshot.text.Goals as goal

pub returns : goal.returns
returns c =
    let s = saved_in c.args.self.now in
    let long_chain : length c.args.self.now.chain ≡ 128 = omega arith in
    let w = wide s (subst (λ n. Bytes n c.args.self.now.chain) long_chain c.push_line.ensures.wide) (subst (AllByRecursion (Bytes 64)) c.as_slice.ensures c.push_passages.ensures.wide) in
    let n = length_numbers (numbers_told (saved_in c.args.self.now)) in
    let head = ap numbers_text c.from.ensures in
    let short = c.push_head.ensures.short in
    let same = ap length head in
    let long = w.long in
    let d = length_listed c.args.self.now.window in
    let few = c.args.self.now.window.few in
    record {
      bytes = text_parts capacity s c.new-text.result c.push_head.new.text c.push_line.new.text c.push_passages.new.text
          (encoded_all c.as_slice.result.now) c.new-text.ensures (c.push_head.ensures.bytes ∙ ap (λ t. take capacity (c.new-text.result ++ t)) head) c.push_line.ensures.bytes c.push_passages.ensures.bytes c.as_slice.ensures
          (omega (arith, n, short, same, long, d, few));
      wide = w;
    }
