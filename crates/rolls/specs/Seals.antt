-- A seal of a press.
use Rattle.std.specs.Prelude.{ℕ, List}
use Rattle.rolls.specs.declared.seal.Seal.{Seal}

-- the seal of the press p at the chain value c
abbrev pub seal_at : {P : Type 0} → P → List ℕ → Seal P
seal_at p c = record { press = p; chain = c }
