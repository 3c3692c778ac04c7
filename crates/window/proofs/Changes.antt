-- What a window lists after a push and a removal.
use Rattle.std.proofs.Common.{◌≡◌, ℕ, suc, ◌<◌, ◌≤◌, List, [], ◌∷◌, ◌++◌, length, Some, None, Ok, Err, Option, Result, sym, ◌∙◌, ap₂, arith}
use Rattle.std.specs.List.{remove}
use Rattle.std.proofs.lemmas.List.{take_all, drop_all, append-nil, length-append, length-take, length-drop}
use Rattle.refusals.specs.declared.refusal.Refusal.{Refusal}
use Rattle.passages.specs.declared.passage.Passage.{Passage}
use Rattle.window.specs.Listed.{Pushes, Removes}

-- where there is room, the passage is in
pub pushed_in : (ms : List (List ℕ)) (m : List ℕ) (ms' : List (List ℕ)) (r : Result (Unit {0}) Refusal) → length ms < 32 → Pushes ms m ms' r → ms' ≡ ms ++ m ∷ []
pushed_in ms m ms' (Ok u) l h = h.1
pushed_in ms m ms' (Err e) l h = absurd (let n = h.1 in omega arith)

removed_past : (ms : List (List ℕ)) (i : ℕ) → length ms ≤ i → remove ms i ≡ ms
removed_past ms i l = ap₂ ◌++◌ (take_all i ms l) (drop_all (suc i) ms (omega arith)) ∙ append-nil ms

-- past the end nothing is taken out
pub taken_out : (ms : List (List ℕ)) (i : ℕ) (ms' : List (List ℕ)) (r : Option Passage) → Removes ms i ms' r → ms' ≡ remove ms i
taken_out ms i ms' (Some p) h = h.2
taken_out ms i ms' None h = h.1 ∙ sym (removed_past ms i h.0)

pub removed_few : (ms : List (List ℕ)) (i : ℕ) → length (remove ms i) ≤ length ms
removed_few ms i = simp (length-append, length-take, length-drop) (omega arith)
