-- The daybook: what a row of calls on a new roll comes to. It is told each call with what the call was given and no answer,
-- and never looks into the roll.
use Rattle.std.specs.Prelude.{ℕ, ◌+◌, cond, List, [], ◌∷◌, ◌++◌, length, take, drop, fold, sum_by, ◌==◌, slice_index_or}
use Rattle.refusals.specs.Refusals.{buffer_refusal, pass_refusal, cancel_refusal, ship_refusal}
use Rattle.press.specs.Meaning.{Meaning}
use Rattle.passages.specs.Fields.{serial_of, charged_of, formed, priced}
use Rattle.passages.specs.Rows.{last_serial, has, without}
use Rattle.daybook.specs.Contents.{text_length}

pub record Daybook : Type 0 where
  -- the digest size in bits
  pub size : ℕ
  -- the standing passages in order
  pub standing : List (List ℕ)
  -- so many of the first of them are shipped, and the others are in the window
  pub shipped : ℕ

-- a call, with what it was given: the bytes of a passage, a serial, the length of a buffer
pub data Call : Type 0 where
  passing : List ℕ → Call
  cancelling : ℕ → Call
  shipping : ℕ → Call
  closing : Call
  reopening : Call
  saving : ℕ → Call
  resuming : Call

-- the shipped passages, and those in the window
abbrev pub archived : Daybook → List (List ℕ)
archived d = take d.shipped d.standing

abbrev pub waiting : Daybook → List (List ℕ)
waiting d = drop d.shipped d.standing

-- the passage that the next ship hands out
abbrev pub next_out : Daybook → List ℕ
next_out d = slice_index_or d.standing d.shipped []

-- the charged cents of the standing passages
abbrev pub cents_of : Daybook → ℕ
cents_of d = sum_by charged_of d.standing

-- the length of the saved text
abbrev pub saved_length : Daybook → ℕ
saved_length d =
    text_length d.size d.shipped (last_serial 0 (archived d)) (sum_by charged_of (archived d)) (length (waiting d))

-- the number of the refusal that the call meets, or 0
abbrev pub refusal : Daybook → Call → ℕ
refusal d (passing m) =
    pass_refusal (length m) (length (waiting d)) (length d.standing) (last_serial 0 d.standing) (serial_of m) (formed m) (priced m)
refusal d (cancelling n) = cancel_refusal d.shipped (last_serial 0 (archived d)) n (has n (waiting d))
refusal d (shipping room) = ship_refusal room (length (waiting d))
refusal d closing = 0
refusal d reopening = 0
refusal d (saving room) = buffer_refusal room (saved_length d)
refusal d resuming = 0

-- what an accepted call makes of the daybook: a pass adds its passage at the end, a cancel removes the one in the window
-- with that serial, a ship counts one more as shipped
abbrev pub noted : Daybook → Call → Daybook
noted d (passing m) = record { size = d.size; standing = d.standing ++ m ∷ []; shipped = d.shipped }
noted d (cancelling n) = record { size = d.size; standing = archived d ++ without n (waiting d); shipped = d.shipped }
noted d (shipping room) = record { size = d.size; standing = d.standing; shipped = d.shipped + 1 }
noted d closing = d
noted d reopening = d
noted d (saving room) = d
noted d resuming = d

-- one call more: a refused one leaves the daybook as it is
abbrev pub next : Daybook → Call → Daybook
next d c = cond (refusal d c == 0) (noted d c) d

-- a new roll of that size
abbrev pub unwritten : ℕ → Daybook
unwritten size = record { size = size; standing = []; shipped = 0 }

-- after a row of calls on a new roll of that size
abbrev pub daybook : ℕ → List Call → Daybook
daybook size calls = fold next (unwritten size) calls

-- the seal over the standing passages: the opening value stepped through them in order
abbrev pub seal_of : Meaning → Daybook → List ℕ
seal_of m d = fold m.steps (m.opens d.size) d.standing

-- the chain value of a closed roll: that seal, stepped with the ending block for the count of standing passages
abbrev pub closed_seal_of : Meaning → Daybook → List ℕ
closed_seal_of m d = m.steps (seal_of m d) (m.ends (length d.standing))
