-- Rows of passages, each in its 64 bytes.
use Rattle.std.specs.Prelude.{ℕ, Bool, true, false, cond, ◌&&◌, ◌||◌, List, [], ◌∷◌, map, fold, ◌==◌}
use Rattle.passages.specs.Fields.{serial_of, fits_after}
use Rattle.passages.specs.Coding.{encoded}
use Rattle.passages.specs.declared.passage.Passage.{Passage}

-- the bytes of each passage
abbrev pub encoded_all : List Passage → List (List ℕ)
encoded_all ps = map encoded ps

-- the serial of the last of them, or n where there is none
abbrev pub last_serial : ℕ → List (List ℕ) → ℕ
last_serial n ms = fold (λ _ m. serial_of m) n ms

-- one of them has the serial n
abbrev pub has : ℕ → List (List ℕ) → Bool
has n [] = false
has n (m ∷ ms) = serial_of m == n || has n ms

-- all but the first that has the serial n
abbrev pub without : ℕ → List (List ℕ) → List (List ℕ)
without n [] = []
without n (m ∷ ms) = cond (serial_of m == n) ms (m ∷ without n ms)

-- those from the first that has the serial n on
abbrev pub onward : ℕ → List (List ℕ) → List (List ℕ)
onward n [] = []
onward n (m ∷ ms) = cond (serial_of m == n) (m ∷ ms) (onward n ms)

-- those after the first that has the serial n
abbrev pub later : ℕ → List (List ℕ) → List (List ℕ)
later n [] = []
later n (m ∷ ms) = cond (serial_of m == n) ms (later n ms)

-- each may stand after the one before it, and the first after one with the serial n
abbrev pub in_order : ℕ → List (List ℕ) → Bool
in_order n [] = true
in_order n (m ∷ ms) = fits_after n m && in_order (serial_of m) ms
