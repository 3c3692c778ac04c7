use Rattle.text_laws.proofs.Forth.{text_forth}
use Rattle.text_laws.proofs.Back.{text_back}
use Rattle.text_laws.proofs.round_trips.Goals as goal

pub returns : goal.returns
returns c = record { forth = text_forth; back = text_back }
