use Rattle.saved_text.specs.Views.{read_numbers}
use Rattle.saved_text.specs.Snapshots.{capacity}
use Rattle.saved_text.proofs.Parts.{head_parts, head_short}
use Rattle.saved_text.proofs.writing.push_head.Goals as goal

pub returns : goal.returns
returns c =
    let v = read_numbers c.args.numbers.now in
    record {
      bytes = head_parts capacity v
          c.args.text.now c.push.new.self c.push_field.new.text c.push_field-2.new.text c.push_field-3.new.text
          c.push_field-4.new.text c.push_field-5.new.text c.push-2.new.self
          c.push.ensures c.push_field.ensures.bytes c.push_field-2.ensures.bytes c.push_field-3.ensures.bytes c.push_field-4.ensures.bytes c.push_field-5.ensures.bytes c.push-2.ensures;
      short = head_short v c.push_field.ensures.short c.push_field-2.ensures.short c.push_field-3.ensures.short c.push_field-4.ensures.short c.push_field-5.ensures.short;
    }
