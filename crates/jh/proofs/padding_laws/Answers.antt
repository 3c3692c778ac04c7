use Rattle.jh.proofs.Lengths.{whole_blocks}
use Rattle.jh.proofs.padding_laws.Goals as goal

pub returns : goal.returns
returns c = whole_blocks
