use Rattle.text_laws.proofs.Begins.{text_refused}
use Rattle.text_laws.proofs.refusals_stand.Goals as goal

pub returns : goal.returns
returns c = text_refused
