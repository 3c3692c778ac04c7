use Rattle.std.proofs.Common.{ℕ, [], take}
use Rattle.replay.specs.Heard.{heard, opened}
use Rattle.replay.specs.Stands.{Stands, Ran}
use Rattle.replay.proofs.replay.run.Given as goal

abbrev pub invariant-loop-i : goal.invariant-loop-i
invariant-loop-i g l =
    (p : g.row.P.Denot) (size : ℕ)
    → Stands g.P.Press.means p size l.initial.roll opened []
    → Ran g.P.Press.means p size l.roll l.initial.answers l.answers (heard size (take l.i l.requests)) l.i
