-- The place that a search of a window's passages finds.
use Rattle.std.proofs.Common.{◌≡◌, ℕ, ◌<◌, ◌≤◌, List, [], length, get_or, Some, None, Option, sym, ap, ◌∙◌, arith}
use Rattle.std.specs.Prelude.{MatchOption}
use Rattle.std.specs.List.{HoldsAt, AllWithin}
use Rattle.std.proofs.lemmas.List.{get_or-map, length-map}
use Rattle.passages.specs.Coding.{encoded}
use Rattle.passages.specs.Fields.{serial_of}
use Rattle.passages.specs.Rows.{encoded_all}
use Rattle.passages.specs.declared.passage.Passage.{Passage}
use Rattle.passages.proofs.Sought.{Before, not_had, had, taken_out, from_there}
use Rattle.window.specs.Listed.{Finds}
use Rattle.window.proofs.Held.{blank}

module _ (n : ℕ) (ps : List Passage) where
  abbrev pub Hit : Passage → Type 0
  Hit p = serial_of (encoded p) ≡ n

  abbrev pub Miss : Passage → Type 0
  Miss p = serial_of (encoded p) ≡ n → ⊥

  serial_at : (k : ℕ) → k < length ps → serial_of (get_or (encoded_all ps) k []) ≡ serial_of (encoded (get_or ps k blank))
  serial_at k h = ap serial_of (get_or-map encoded ps k blank [] h)

  before : (i : ℕ) → i ≤ length ps → AllWithin Miss ps 0 i → Before (encoded_all ps) n i
  before i l m k h e = m k blank (omega arith) h (sym (serial_at k (omega arith)) ∙ e)

  pub found : (r : Option ℕ) → MatchOption r (AllWithin Miss ps 0 (length ps)) (λ i. (i < length ps) × HoldsAt Hit ps i × AllWithin Miss ps 0 i) → Finds n (encoded_all ps) r
  found (Some i) m =
      let ms = encoded_all ps in
      let long = length-map ps encoded in
      let l : i < length ms = let h = m.0 in omega arith in
      let e : serial_of (get_or ms i []) ≡ n = serial_at i m.0 ∙ m.1 blank in
      let b = before i (let h = m.0 in omega arith) m.2 in
      let there = from_there ms n i l e b in
      record { within = l; held = had ms n i l e b; rest = taken_out ms n i l e b; from = there.0; after = there.1 }
  found None m = not_had (encoded_all ps) n (λ k h. let long = length-map ps encoded in before (length ps) (omega arith) m k (omega arith))
