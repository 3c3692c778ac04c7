use Rattle.jh.proofs.Whole.{e8_undone}
use Rattle.jh.proofs.e8_laws.Goals as goal

pub returns : goal.returns
returns c = e8_undone
