use Rattle.std.proofs.Common.{◌≡◌, ℕ, List, length, take, refl, subst, arith}
use Rattle.std.proofs.lemmas.List.{take_all}
use Rattle.replay.specs.Heard.{heard}
use Rattle.replay.specs.Stands.{Ran}
use Rattle.replay.specs.declared.request.Request.{Request}
use Rattle.replay.specs.declared.request.Request.TheVariants.{Close}
use Rattle.replay.proofs.Rows.{ran_more}
use Rattle.replay.proofs.replay.run.Goals as goal

pub loop-i-preserved : goal.loop-i-preserved
loop-i-preserved g c =
    λ p size h.
    let d : Request = Close in
    let w = c.turn-next in
    ran_more g.P.Press.means p size c.loop-i.roll w.result.0 c.args.answers.now c.loop-i.answers w.result.1
    c.args.requests.now c.loop-i.i d (omega arith) (omega arith) (c.loop-i.invariant p size h) (w.ensures p size)

pub returns : goal.returns
returns g c =
    λ p size h.
    let qs = c.args.requests.now in
    let n : c.loop-i.i ≡ length qs = omega arith in
    let e : take c.loop-i.i qs ≡ qs = take_all c.loop-i.i qs (omega arith) in
    subst (λ (k : ℕ). Ran g.P.Press.means p size c.loop-i.roll c.args.answers.now c.loop-i.answers (heard size qs) k) n
    (subst (λ (xs : List Request). Ran g.P.Press.means p size c.loop-i.roll c.args.answers.now c.loop-i.answers (heard size xs) c.loop-i.i) e
    (c.loop-i.invariant p size (refl, h)))
