use Rattle.std.proofs.Common.{◌≡◌, ◌+◌, ◌-◌, length, sym, ap, ◌∙◌, arith}
use Rattle.std.proofs.lemmas.Result.{err_from_is_err_and}
use Rattle.std.proofs.lemmas.List.{length_push}
use Rattle.passages.specs.Coding.{encoded}
use Rattle.window.specs.Listed.{listed}
use Rattle.window.proofs.Changes.{pushed_in}
use Rattle.text_laws.specs.Saved.{passages}
use Rattle.saved_text.specs.Views.{view}
use Rattle.saved_text.proofs.Turns.{no_line, no_passage, come_on, come_as}
use Rattle.saved_text.proofs.reading.read_window.Goals as goal

pub loop-at-init : goal.loop-at-init
loop-at-init c =
    let none = c.new-window.ensures in
    let all : c.args.count + 3 - 3 ≡ c.args.count = omega arith in
    let l = ap length none in
    record {
      come = ap (λ n. passages n 3 c.args.last (listed c.new-window.result) c.args.text.now) all ∙ ap (λ got. passages c.args.count 3 c.args.last got c.args.text.now) none;
      long = omega (arith, l);
    }

pub returns-in_err-line : goal.returns-in_err-line
returns-in_err-line c =
    let p = err_from_is_err_and c.from_residual.result c.from_residual.ensures.1 in
    let e = c.in_err-line.ensures in
    let f = no_line c.args.count c.loop-at.at c.args.last c.loop-at.before (listed c.loop-at.window) c.loop-at.rest.now c.args.text.now (omega arith) c.loop-at.invariant.come e.0 in
    rw p.1 (grind (arith, f, e.1, e.2, p.2.0, p.2.1))

pub returns-in_err-passage : goal.returns-in_err-passage
returns-in_err-passage c =
    let p = err_from_is_err_and c.from_residual-in_err-passage.result c.from_residual-in_err-passage.ensures.1 in
    let f = no_passage c.args.count c.loop-at.at c.args.last c.loop-at.before (listed c.loop-at.window) c.loop-at.rest.now c.args.text.now (omega arith) c.loop-at.invariant.come
    (view c.in_ok-line.line) c.in_ok-line.after.now c.in_ok-line.ensures _ c.in_err-passage.ensures in
    rw p.1 (grind (arith, f, p.2.0, p.2.1))

pub loop-at-preserved : goal.loop-at-preserved
loop-at-preserved c =
    let read = c.in_ok-passage.ensures in
    let m = encoded c.in_ok-passage.passage in
    let f = come_on c.args.count c.loop-at.at c.args.last c.loop-at.before (listed c.loop-at.window) c.loop-at.rest.now c.args.text.now (omega arith) c.loop-at.invariant.come
    (view c.in_ok-line.line) c.in_ok-line.after.now c.in_ok-line.ensures m read.0 in
    let few = c.loop-at.invariant.long in
    let g = pushed_in (listed c.loop-at.window) m (listed c.push.new.self) c.push.result (omega arith) c.push.ensures in
    let longer = ap length g ∙ length_push (listed c.loop-at.window) m in
    record {
      come = come_as c.args.count (c.loop-at.at + 1) c.args.last _ _ _ _ c.in_ok-line.after.now c.args.text.now read.1 g f;
      long = omega (arith, longer);
    }
