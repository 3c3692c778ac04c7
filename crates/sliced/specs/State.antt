-- What a sliced state means.
use Rattle.std.specs.Prelude.{◌≡◌, List, ℕ, ◌%◌}
use Rattle.jh.specs.Round.{first, second}
use Rattle.jh.specs.Inverse.{unfirst, unsecond}
use Rattle.jh.specs.Permutation.{after}
use Rattle.jh.specs.Laws.{Elements}
use Rattle.slicing.specs.Places.{Lies}
use Rattle.sliced.specs.Slices.{element_at}
use Rattle.sliced.specs.declared.state.State.{State}

-- s is the sliced form of the elements q, turned by t
abbrev pub Form : ℕ → List ℕ → State → Type 0
Form t q s = Lies 0 t q (element_at s.even) (element_at s.odd)

-- s is the sliced form of the elements that r rounds make of q
abbrev pub Reached : ℕ → List ℕ → State → Type 0
Reached r q s = Form (r % 7) (after r q) s

-- where s has come through m rounds, t has come through n
abbrev pub Steps : ℕ → State → ℕ → State → Type 0
Steps m s n t = (q : List ℕ) → Elements 8 q → Reached m q s → Reached n q t

-- the pair i of t is L of the pair i of s
pub record Mixed (s t : State) (i : ℕ) : Type 0 where
  pub even : element_at t.even i ≡ first (element_at s.even i) (element_at s.odd i)
  pub odd : element_at t.odd i ≡ second (element_at s.even i) (element_at s.odd i)

-- the pair i of t is the one that L turns into the pair i of s
pub record Unmixed (s t : State) (i : ℕ) : Type 0 where
  pub even : element_at t.even i ≡ unfirst (element_at s.even i) (element_at s.odd i)
  pub odd : element_at t.odd i ≡ unsecond (element_at s.even i) (element_at s.odd i)
