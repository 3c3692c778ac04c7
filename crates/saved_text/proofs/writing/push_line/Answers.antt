use Rattle.saved_text.specs.Snapshots.{capacity}
use Rattle.saved_text.proofs.Parts.{line_parts}
use Rattle.saved_text.proofs.writing.push_line.Goals as goal

pub returns-clause-bytes : goal.returns-clause-bytes
returns-clause-bytes c =
    line_parts capacity c.args.text.now c.push.new.self c.push-2.new.self c.push_hex.new.self c.push-3.new.self
    c.args.word.now c.args.bytes.now c.push.ensures c.push-2.ensures c.push_hex.ensures c.push-3.ensures
