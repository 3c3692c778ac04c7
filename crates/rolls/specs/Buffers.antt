-- What a call writes into a buffer.
use Rattle.std.specs.Prelude.{◌≡◌, ℕ, List, ◌++◌, length, drop, Ok, Err, Result}

-- a call with the result r that writes n bytes: the buffer begins with `text`, and the rest of it is as it was; refused, all of it is
abbrev pub Writes : {X E : Type 0} → Result X E → (n : ℕ) (text old new : List ℕ) → Type 0
Writes (Ok x) n text old new = (length text ≡ n) × (new ≡ text ++ drop n old)
Writes (Err e) n text old new = new ≡ old
