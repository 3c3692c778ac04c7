use Rattle.std.proofs.Common.{length}
use Rattle.transcript.proofs.Progress.{CameTo}
use Rattle.transcript.proofs.run.Given as goal

-- what is written, and the answers to what is left, are the answers to the whole text
abbrev pub invariant-loop-line : goal.invariant-loop-line
invariant-loop-line g l =
    CameTo g.J.Press.means g.D.Press.means
    l.initial.session l.text l.initial.out l.session l.rest l.out

abbrev pub decreases-loop-line : goal.decreases-loop-line
decreases-loop-line g l = length l.rest
