use Rattle.std.proofs.Common.{length, sym, ◌∙◌}
use Rattle.std.proofs.lemmas.Bool.{eqb-true, eqb-false}
use Rattle.std.proofs.lemmas.Result.{err_from_is_err_and}
use Rattle.transcript.proofs.Lines.{after_shorter}
use Rattle.transcript.proofs.Progress.{starts, goes, stops, ends, last}
use Rattle.transcript.proofs.run.Goals as goal

pub loop-line-init : goal.loop-line-init
loop-line-init g c = starts g.J.Press.means g.D.Press.means c.args.session c.args.text.now c.args.out.now

pub loop-line-smaller : goal.loop-line-smaller
loop-line-smaller g c = after_shorter c.loop-line.rest.now c.in-Some.line.now c.in-Some.after.now c.in-Some.ensures

pub loop-line-preserved : goal.loop-line-preserved
loop-line-preserved g c =
    goes g.J.Press.means g.D.Press.means
    c.args.session c.args.text.now c.args.out.now c.loop-line.session c.loop-line.rest.now c.loop-line.out c.loop-line.invariant
    c.answer-next.result.0 c.add.new.out c.answer-next.result.1 c.in-Some.line.now c.in-Some.after.now c.in-Some.ensures c.answer-next.ensures c.in_ok-add.ensures

pub returns-in_err-add : goal.returns-in_err-add
returns-in_err-add g c = λ j d k h.
    let e = err_from_is_err_and c.from_residual.result c.from_residual.ensures.1 in
    rw e.1 (stops g.J.Press.means g.D.Press.means
    c.args.session c.args.text.now c.args.out.now c.loop-line.session c.loop-line.rest.now c.loop-line.out c.loop-line.invariant
    c.add.new.out c.answer-next.result.0 c.answer-next.result.1 c.in-Some.line.now c.in-Some.after.now c.in-Some.ensures c.answer-next.ensures c.in_err-add.ensures j d k h)

pub returns-then-is_empty : goal.returns-then-is_empty
returns-then-is_empty g c =
    ends g.J.Press.means g.D.Press.means
    c.args.session c.args.text.now c.args.out.now c.loop-line.session c.loop-line.rest.now c.loop-line.out c.loop-line.invariant
    c.in_default.ensures (eqb-true (length c.loop-line.rest.now) 0 (sym c.is_empty.ensures ∙ c.if-is_empty.true))

pub returns : goal.returns
returns g c =
    last g.J.Press.means g.D.Press.means
    c.args.session c.args.text.now c.args.out.now c.loop-line.session c.loop-line.rest.now c.loop-line.out c.loop-line.invariant
    c.add-2.result c.add-2.new.out c.in_default.ensures (eqb-false (length c.loop-line.rest.now) 0 (sym c.is_empty.ensures ∙ c.if-is_empty.false)) c.add-2.ensures
