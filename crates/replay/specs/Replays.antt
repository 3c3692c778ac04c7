-- The theorem over every row of requests on a new roll.
use Rattle.std.specs.Prelude.{◌≡◌, ℕ, cond, List, ◌++◌, length, drop, Ok, Err, Result, nat_lt}
use Rattle.press.specs.Meaning.{Meaning}
use Rattle.std.specs.List.{AllByRecursion}
use Rattle.byte_strings.specs.Bytes.{Bytes}
use Rattle.refusals.specs.Refusals.{number, size_refusal}
use Rattle.press.specs.declared.Declined.{Declined}
use Rattle.daybook.specs.Daybook.{daybook}
use Rattle.replay.specs.Heard.{heard, reading_at}
use Rattle.replay.specs.declared.request.Request.{Request}
use Rattle.replay.specs.declared.request.Answer.{Answer}
use Rattle.replay.specs.declared.request.Reading.{Reading}

-- what was answered to a row of requests on a new roll, and what the roll then tells: all of it as the daybook says that was told
-- the calls alone
pub record Told (m : Meaning) (size : ℕ) (qs : List Request) (old new : List Answer) (x : Reading) : Type 0 where
  pub answers : new ≡ (heard size qs).answers ++ drop (length qs) old
  -- each standing passage has 64 bytes
  pub blocks : AllByRecursion (Bytes 64) (daybook size (heard size qs).calls).standing
  pub reading : x ≡ reading_at m (heard size qs).phase (daybook size (heard size qs).calls)

-- the number of the refusal: fewer answers than requests, or a size that is none of the four
abbrev pub replay_refusal : (size requests answers : ℕ) → ℕ
replay_refusal size requests answers = cond (nat_lt answers requests) 4 (size_refusal size)

-- a replay over the press p: refused, the press comes back and the answers are as they were
abbrev pub Replays : {P : Type 0} → (P → Meaning)
    → P → ℕ → List Request → (old new : List Answer) → Result Reading (Declined P) → Type 0
Replays means p size qs old new (Ok x) =
    (replay_refusal size (length qs) (length old) ≡ 0) × Told (means p) size qs old new x
Replays means p size qs old new (Err d) =
    (replay_refusal size (length qs) (length old) ≡ number d.refusal) × (d.press ≡ p) × (new ≡ old)
