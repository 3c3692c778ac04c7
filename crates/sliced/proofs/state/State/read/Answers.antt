use Rattle.sliced.proofs.Ends.{words_form}
use Rattle.sliced.proofs.state.State.read.Goals as goal

pub returns : goal.returns
returns c = words_form _ c.read.ensures
