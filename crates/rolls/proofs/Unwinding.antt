-- A chain value wound back through passages, the newest first.
use Rattle.std.proofs.Common.{◌≡◌, ℕ, List, [], ◌∷◌, fold, reverse, refl, ap, ◌∙◌}
use Rattle.std.proofs.lemmas.List.{reverse-append, map_push}
use Rattle.std.proofs.lemmas.List.Sums.{fold_push}
use Rattle.passages.specs.Coding.{encoded}
use Rattle.passages.specs.Rows.{encoded_all}
use Rattle.passages.specs.declared.passage.Passage.{Passage}
use Rattle.daybook.specs.States.{unwound}

pub newest_first : (back : List ℕ → List ℕ → List ℕ) (c : List ℕ) (ps : List Passage) → fold back c (encoded_all (reverse ps)) ≡ unwound back c (encoded_all ps)
newest_first back c [] = refl
newest_first back c (p ∷ ps) =
    ap (λ qs. fold back c (encoded_all qs)) (reverse-append (p ∷ []) ps)
    ∙ ap (fold back c) (map_push encoded (reverse ps) p)
    ∙ fold_push back c (encoded_all (reverse ps)) (encoded p)
    ∙ ap (λ d. back d (encoded p)) (newest_first back c ps)
