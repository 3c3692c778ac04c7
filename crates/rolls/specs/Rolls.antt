-- What a roll is to the daybook, and what an open and a digest answer.
use Rattle.std.specs.Prelude.{◌≡◌, ℕ, ◌-◌, ◌/◌, true, false, List, drop, Ok, Err, Result}
use Rattle.refusals.specs.Sizes.{is_size}
use Rattle.refusals.specs.declared.refusal.Refusal.TheVariants.{Size}
use Rattle.press.specs.Meaning.{Meaning}
use Rattle.press.specs.declared.Declined.{Declined}
use Rattle.daybook.specs.States.{State, after_open}
use Rattle.rolls.specs.declared.state.OpenRoll.{OpenRoll}

-- an open with n for the size: a new roll; or the press comes back
abbrev pub Opens : {P : Type 0} → (P → Meaning) → P → ℕ → Result (OpenRoll P) (Declined P) → Type 0
Opens means p n (Ok o) = (is_size n ≡ true) × (o ≡ after_open means p n)
Opens means p n (Err d) = (is_size n ≡ false) × (d.press ≡ p) × (d.refusal ≡ Size)

-- how many bytes the digest of a closed roll has, and the digest: the last bytes of its chain value
abbrev pub digest_length : {P : Type 0} → State P → ℕ
digest_length s = s.contents.size / 8

abbrev pub digest_in : {P : Type 0} → State P → List ℕ
digest_in s = drop (128 - digest_length s) s.seal
