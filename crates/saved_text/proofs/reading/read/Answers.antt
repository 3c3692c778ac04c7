use Rattle.saved_text.proofs.Laws.{lawful}
use Rattle.saved_text.proofs.reading.read.Goals as goal

pub returns : goal.returns
returns c = record { value = c.parse.ensures; law = lawful c.args.text.now c.parse.result c.parse.ensures }
