use Rattle.std.proofs.Common.{◌≡◌, fold, map}
use Rattle.passages.specs.Rows.{encoded_all}
use Rattle.rolls.specs.Seals.{seal_at}
use Rattle.rolls.proofs.seal.Seal.unwind.Given as goal

abbrev pub invariant-loop-passage : goal.invariant-loop-passage
invariant-loop-passage g l =
    l.self ≡ seal_at l.initial.self.press (fold (g.P.Press.backs l.initial.self.press) l.initial.self.chain (encoded_all (map (λ y. y.now) l.yielded)))
