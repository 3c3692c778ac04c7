use Rattle.std.proofs.Common.{◌≡◌, List, ℕ, take, vec_items, refl, sym, ap, ◌∙◌, subst}
use Rattle.std.proofs.lemmas.List.{take_min}
use Rattle.sessions.specs.Courses.{by_name, no_roll}
use Rattle.transcript.specs.Output.{answers_on, requests, Fronted}
use Rattle.transcript.proofs.Progress.{cut_back, stays}
use Rattle.transcript.proofs.transcribe.Goals as goal

pub returns-then-is_err : goal.returns-then-is_err
returns-then-is_err g c =
    let m = by_name (g.J.Press.means c.args.jh) (g.D.Press.means c.args.drill) in
    let v = c.args.out.now in
    let r = c.run-result in
    let part : take c.min.result c.args.text.now ≡ take 65536 c.args.text.now = ap (λ k. take k c.args.text.now) c.min.ensures ∙ take_min 65536 c.args.text.now in
    cut_back r.result v r.new.out c.truncate.new.self (answers_on m no_roll (requests (take 65536 c.args.text.now))) (sym c.is_err.ensures.value ∙ c.if-is_err.true)
    (c.truncate.ensures.items ∙ ap (λ k. take k (vec_items r.new.out)) (c.len-old.ensures ∙ v.ok.0))
    (subst (λ (t : List ℕ). Fronted r.result v r.new.out (answers_on m no_roll (requests t))) part (r.ensures c.args.jh c.args.drill no_roll (refl, refl)))

pub returns-else-is_err : goal.returns-else-is_err
returns-else-is_err g c =
    let m = by_name (g.J.Press.means c.args.jh) (g.D.Press.means c.args.drill) in
    let r = c.run-result in
    let part : take c.min.result c.args.text.now ≡ take 65536 c.args.text.now = ap (λ k. take k c.args.text.now) c.min.ensures ∙ take_min 65536 c.args.text.now in
    stays r.result c.args.out.now r.new.out (answers_on m no_roll (requests (take 65536 c.args.text.now))) (sym c.is_err.ensures.value ∙ c.if-is_err.false)
    (subst (λ (t : List ℕ). Fronted r.result c.args.out.now r.new.out (answers_on m no_roll (requests t))) part (r.ensures c.args.jh c.args.drill no_roll (refl, refl)))
