use Rattle.std.proofs.Common.{subst, rules, tests}
use Rattle.std.proofs.lemmas.Iterator.{YieldsList-from_slice, IsFirst-from_position}
use Rattle.window.specs.Listed.{Finds}
use Rattle.window.proofs.Searches.{Hit, Miss, found}
use Rattle.window.proofs.window.Window.find.Goals as goal

pub returns : goal.returns
returns c =
    let n = c.args.sought in
    let ps = c.as_slice.result.now in
    let first = IsFirst-from_position _ _ c.position.result (Hit n ps) (Miss n ps) c.position.ensures.ran (YieldsList-from_slice ps cc) (λ x q k. search (rules, tests)) (λ x q k. search (rules, tests)) in
    subst (λ ms. Finds n ms c.position.result) c.as_slice.ensures (found n ps c.position.result first)
