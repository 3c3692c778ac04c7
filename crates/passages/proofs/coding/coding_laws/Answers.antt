use Rattle.passages.proofs.Encodings.{encoding, decoding}
use Rattle.passages.proofs.coding.coding_laws.Goals as goal

pub returns : goal.returns
returns c = record { encoding = encoding; decoding = decoding }
