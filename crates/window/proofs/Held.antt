-- The passage at a place of a window.
use Rattle.std.proofs.Common.{◌≡◌, ℕ, ◌<◌, ◌≤◌, List, [], length, get_or, take, sum, sum_by, sym, ap, ◌∙◌, arith}
use Rattle.std.proofs.lemmas.List.{length-map, get_or-map, length-take-le}
use Rattle.std.proofs.lemmas.List.Sums.{sum-map, sum_by-le}
use Rattle.passages.specs.Coding.{encoded}
use Rattle.passages.specs.Fields.{charged_of}
use Rattle.passages.specs.Rows.{encoded_all}
use Rattle.passages.specs.declared.passage.Passage.{Passage}
use Rattle.passages.proofs.Encodings.{charged_most}
use Rattle.std.proofs.lemmas.Simd.{map-map}
use Rattle.window.specs.Listed.{listed}
use Rattle.window.specs.declared.window.Window.{Window}

-- what stands for a passage where there is none
abbrev pub blank : Passage
blank =
    record {
      gate = 0;
      serial = 0;
      time = 0;
      class = 0;
      version = 0;
      full_price = 0;
      discount = 0;
      charged = 0;
      tag = [];
    }

pub length_listed : (w : Window) → length (listed w) ≡ w.count
length_listed w =
    let few = w.few in
    let long = w.long in
    length-map (take w.count w.places) encoded ∙ length-take-le w.count w.places (omega arith)

-- a window's passages as a slice
module _ (w : Window) (ps : List Passage) (e : encoded_all ps ≡ listed w) where
  pub length_held : length ps ≡ length (listed w)
  length_held = sym (length-map ps encoded) ∙ ap length e

  pub few_held : length ps ≤ 32
  few_held = let few = w.few in omega (arith, length_held, length_listed w)

  pub encoded_held : (i : ℕ) (d : Passage) → i < length ps → encoded (get_or ps i d) ≡ get_or (listed w) i []
  encoded_held i d h = sym (get_or-map encoded ps i d [] h) ∙ ap (λ ms. get_or ms i []) e

-- the charged cents of passages, as their bytes have them
pub sum_charged : (ps : List Passage) → sum_by (λ p. charged_of (encoded p)) ps ≡ sum_by charged_of (encoded_all ps)
sum_charged ps = sym (sum-map (λ p. charged_of (encoded p)) ps) ∙ ap sum (sym (map-map charged_of encoded ps)) ∙ sum-map charged_of (encoded_all ps)

pub most_charged : (w : Window) (ps : List Passage) → encoded_all ps ≡ listed w → sum_by (λ p. charged_of (encoded p)) ps ≤ 137438953440
most_charged w ps e =
    let most = sum_by-le (λ p. charged_of (encoded p)) 4294967295 ps (λ k d h. charged_most (get_or ps k d)) in
    let few = few_held w ps e in
    omega arith
