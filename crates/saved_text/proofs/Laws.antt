-- A text that was read lawful as the laws of saved texts say.
use Rattle.std.proofs.Common.{ℕ, List, Ok, Err, Result}
use Rattle.refusals.specs.Refusals.{number}
use Rattle.text_laws.proofs.Back.{text_back}
use Rattle.text_laws.proofs.Begins.{text_refused}
use Rattle.saved_text.specs.Snapshots.{saved_in, Reads, Lawful}
use Rattle.saved_text.specs.declared.snapshot.Snapshot.{Snapshot}
use Rattle.saved_text.specs.declared.snapshot.TextFault.{TextFault}

pub lawful : (t : List ℕ) (r : Result Snapshot TextFault) → Reads t r → Lawful t r
lawful t (Ok x) h = text_back t (saved_in x) h
lawful t (Err e) h = text_refused t (number e.refusal, e.line) h
