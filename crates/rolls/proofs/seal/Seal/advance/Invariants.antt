use Rattle.std.proofs.Common.{◌≡◌, take, fold}
use Rattle.passages.specs.Rows.{encoded_all}
use Rattle.rolls.specs.Seals.{seal_at}
use Rattle.rolls.proofs.seal.Seal.advance.Given as goal

abbrev pub invariant-loop-passage : goal.invariant-loop-passage
invariant-loop-passage g l = l.self ≡ seal_at l.initial.self.press (fold (g.P.Press.means l.initial.self.press).steps l.initial.self.chain (encoded_all (take l.passage-index l.passages)))
