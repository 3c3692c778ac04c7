-- What a window holds.
use Rattle.std.specs.Prelude.{◌≡◌, ℕ, ◌+◌, ◌<◌, ◌≤◌, true, false, List, [], ◌∷◌, ◌++◌, length, take, drop, Some, None, Ok, Err, Option, Result, slice_index_or}
use Rattle.std.specs.List.{remove}
use Rattle.refusals.specs.declared.refusal.Refusal.{Refusal}
use Rattle.refusals.specs.declared.refusal.Refusal.TheVariants.{Full}
use Rattle.passages.specs.Coding.{encoded}
use Rattle.passages.specs.declared.passage.Passage.{Passage}
use Rattle.passages.specs.Rows.{encoded_all, has, without, onward, later}
use Rattle.window.specs.declared.window.Window.{Window}

-- the bytes of its passages, oldest first
abbrev pub listed : Window → List (List ℕ)
listed w = encoded_all (take w.count w.places)

-- m joins the row ms at its end, or the row has no room and stays
abbrev pub Pushes : (ms : List (List ℕ)) (m : List ℕ) (ms' : List (List ℕ)) → Result (Unit {0}) Refusal → Type 0
Pushes ms m ms' (Ok u) = (length ms < 32) × (ms' ≡ ms ++ m ∷ [])
Pushes ms m ms' (Err e) = (e ≡ Full) × (length ms ≡ 32) × (ms' ≡ ms)

-- the passage at place i leaves the row ms, or no passage is there and the row stays
abbrev pub Removes : (ms : List (List ℕ)) (i : ℕ) (ms' : List (List ℕ)) → Option Passage → Type 0
Removes ms i ms' (Some p) = (i < length ms) × (encoded p ≡ slice_index_or ms i []) × (ms' ≡ remove ms i)
Removes ms i ms' None = (length ms ≤ i) × (ms' ≡ ms)

-- the passage at place i of the row ms is the first with the serial n
pub record Found (n : ℕ) (ms : List (List ℕ)) (i : ℕ) : Type 0 where
  pub within : i < length ms
  pub held : has n ms ≡ true
  pub rest : remove ms i ≡ without n ms
  pub from : drop i ms ≡ onward n ms
  pub after : drop (i + 1) ms ≡ later n ms

-- the place of the first passage with the serial n, or none has it
abbrev pub Finds : (n : ℕ) (ms : List (List ℕ)) → Option ℕ → Type 0
Finds n ms (Some i) = Found n ms i
Finds n ms None = has n ms ≡ false
