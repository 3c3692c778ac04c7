use Rattle.std.proofs.Common.{sum_by, ◌∙◌, ap, rules, tests, arith}
use Rattle.std.proofs.lemmas.Iterator.{YieldsList-from_slice, YieldsList-from_map}
use Rattle.std.proofs.lemmas.Iterator.Consumers.{fits_by_from_yields_list, sum_by_from_yields_List}
use Rattle.passages.specs.Coding.{encoded}
use Rattle.passages.specs.Fields.{charged_of}
use Rattle.window.proofs.Held.{most_charged, sum_charged}
use Rattle.window.proofs.window.Window.cents.Goals as goal

pub sum-requires-clause-fits : goal.sum-requires-clause-fits
sum-requires-clause-fits c =
    let ps = c.as_slice.result.now in
    let most = most_charged c.args.self.now ps c.as_slice.ensures in
    fits_by_from_yields_list _ ps c.map.result _ (YieldsList-from_map _ (λ p. charged_of (encoded p)) (YieldsList-from_slice ps cc) c.map.ensures.closure (λ x r q k. search (rules, tests))) (omega arith)

pub returns : goal.returns
returns c =
    let ps = c.as_slice.result.now in
    let most = most_charged c.args.self.now ps c.as_slice.ensures in
    let sum = sum_by_from_yields_List _ ps c.map.result _ c.sum.ensures.ran (YieldsList-from_map _ (λ p. charged_of (encoded p)) (YieldsList-from_slice ps cc) c.map.ensures.closure (λ x r q k. search (rules, tests))) in
    record { value = sum ∙ sum_charged ps ∙ ap (sum_by charged_of) c.as_slice.ensures; bound = omega arith }
