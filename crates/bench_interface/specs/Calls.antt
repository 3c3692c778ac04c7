-- What the calls from C answer.
use Rattle.std.specs.Prelude.{ℕ, ◌*◌, ◌/◌, cond, List, ◌++◌, length, drop, ◌==◌}
use Rattle.jh.specs.Message.{bits_of}
use Rattle.jh.specs.Jh.{jh}
use Rattle.refusals.specs.Refusals.{digest_refusal}

-- what is done to a state of 128 bytes, and to nothing else
abbrev pub on_state : (List ℕ → List ℕ) → List ℕ → List ℕ
on_state f x = cond (length x == 128) (f x) x

-- the number of the refusal of a digest of a whole message, or 0
abbrev pub refusal : ℕ → List ℕ → List ℕ → ℕ
refusal size message out = digest_refusal size (length message) (8 * length message) (length out)

-- the buffer after the call: the digest and the rest of the buffer, or what it was
abbrev pub digested : ℕ → List ℕ → List ℕ → List ℕ
digested size message out = cond (refusal size message out == 0) (jh size (bits_of message) ++ drop (size / 8) out) out
