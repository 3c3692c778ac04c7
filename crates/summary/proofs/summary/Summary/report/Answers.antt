use Rattle.std.proofs.Common.{◌≡◌, ℕ, List, ◌++◌, take, sym, ap, ◌∙◌, subst}
use Rattle.std.proofs.lemmas.List.{take_all}
use Rattle.std.proofs.lemmas.Option.{MatchOption-at_some, MatchOption-at_none}
use Rattle.jh.specs.Jh.{jh_over}
use Rattle.summary.specs.Fed.{Four, Fed}
use Rattle.summary.specs.Report.{refusal_line, lines, report_of}
use Rattle.summary.proofs.Reported.{refusal_reported, lines_reported, report_jh}
use Rattle.summary.proofs.summary.Summary.report.Goals as goal

pub returns-in-Some : goal.returns-in-Some
returns-in-Some g c =
    let image = g.P.Permutation.image in
    let v : (p : g.row.P.Denot) (m : List ℕ) → Fed image p m c.args.self → c.push_lines.new.text ≡ report_of (jh_over (image p)) m =
    λ p m h.
    let d = jh_over (image p) in
    let f = MatchOption-at_some _ _ c.in-Some.feeders c.in-Some.is h in
    let a = c.push_lines.ensures p m (subst (λ x. Four image p m x) (sym c.in-Some.feeders-is) f.1) in
    a.text ∙ ap (λ (u : List ℕ). take 364 (u ++ lines d m)) c.new-text.ensures ∙ take_all 364 (lines d m) a.long ∙ sym (lines_reported d m f.0) in
    record { value = v; jh = λ p m h e. v p m h ∙ report_jh (image p) e m }

pub returns-in-None : goal.returns-in-None
returns-in-None g c =
    let image = g.P.Permutation.image in
    let v : (p : g.row.P.Denot) (m : List ℕ) → Fed image p m c.args.self → c.push.new.self ≡ report_of (jh_over (image p)) m =
    λ p m h.
    c.push.ensures
    ∙ ap (λ (u : List ℕ). take 364 (u ++ refusal_line)) c.new-text.ensures
    ∙ sym (refusal_reported (jh_over (image p)) m (MatchOption-at_none _ _ c.in-None.is h)) in
    record { value = v; jh = λ p m h e. v p m h ∙ report_jh (image p) e m }
