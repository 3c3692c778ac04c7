use Rattle.std.proofs.Common.{drop, sym, ap, ◌∙◌}
use Rattle.std.proofs.lemmas.List.{take_rest, drop-map, drop_min}
use Rattle.passages.specs.Coding.{encoded}
use Rattle.passages.specs.Rows.{encoded_all}
use Rattle.window.proofs.window.Window.tail.Goals as goal

pub returns : goal.returns
returns c =
    let i = c.args.i in
    let all = c.as_slice-all.result.now in
    ap encoded_all (take_rest all c.min.result ∙ ap (λ j. drop j all) c.min.ensures ∙ drop_min i all)
    ∙ sym (drop-map encoded i all)
    ∙ ap (drop i) c.as_slice-all.ensures
