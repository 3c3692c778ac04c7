-- What a roll holds besides its press and its seal, when it refuses a call, and what an accepted call makes of it.
-- A passage stands here as its 64 bytes.
use Rattle.std.specs.Prelude.{ℕ, ◌+◌, ◌*◌, List, [], ◌∷◌, ◌++◌, length, drop, decimal, sum_by, slice_index_or}
use Rattle.refusals.specs.Refusals.{buffer_refusal, pass_refusal, cancel_refusal, ship_refusal}
use Rattle.passages.specs.Fields.{serial_of, charged_of, formed, priced}
use Rattle.passages.specs.Rows.{last_serial, has, without}

pub record Contents : Type 0 where
  -- the digest size in bits
  pub size : ℕ
  -- the passages in the window, oldest first
  pub window : List (List ℕ)
  -- of the passages shipped: how many, the serial of the last (0 where there is none), their charged cents
  pub shipped : ℕ
  pub last : ℕ
  pub cents : ℕ

-- a new roll of that digest size
abbrev pub nothing_yet : ℕ → Contents
nothing_yet size = record { size = size; window = []; shipped = 0; last = 0; cents = 0 }

-- how many passages stand, shipped ones included
abbrev pub standing_count : Contents → ℕ
standing_count k = k.shipped + length k.window

-- the charged cents of all that stand
abbrev pub charged_cents : Contents → ℕ
charged_cents k = k.cents + sum_by charged_of k.window

-- the serial of the last standing passage, or 0
abbrev pub top_serial : Contents → ℕ
top_serial k = last_serial k.last k.window

-- the length of a saved text: a line of five decimal numbers, a line of the seal, and a line for each passage in the window
abbrev pub text_length : (size shipped last cents waiting : ℕ) → ℕ
text_length size shipped last cents waiting =
    (10 + (length (decimal size) + (length (decimal shipped) + (length (decimal last) + (length (decimal cents) + length (decimal waiting))))))
    + (263 + 134 * waiting)

-- the length of the saved text of a roll
abbrev pub contents_length : Contents → ℕ
contents_length k = text_length k.size k.shipped k.last k.cents (length k.window)

-- the number of the refusal that a call meets, or 0: a pass of the bytes m, a cancel of the serial n, and a ship and a save
-- into a buffer of so many bytes
abbrev pub refused_pass : Contents → List ℕ → ℕ
refused_pass k m = pass_refusal (length m) (length k.window) (standing_count k) (top_serial k) (serial_of m) (formed m) (priced m)

abbrev pub refused_cancel : Contents → ℕ → ℕ
refused_cancel k n = cancel_refusal k.shipped k.last n (has n k.window)

abbrev pub refused_ship : Contents → ℕ → ℕ
refused_ship k room = ship_refusal room (length k.window)

abbrev pub refused_save : Contents → ℕ → ℕ
refused_save k room = buffer_refusal room (contents_length k)

-- the same with another window
abbrev pub with_window : Contents → List (List ℕ) → Contents
with_window k ms = record { size = k.size; window = ms; shipped = k.shipped; last = k.last; cents = k.cents }

-- m joins the window at its end
abbrev pub passed : Contents → List ℕ → Contents
passed k m = with_window k (k.window ++ m ∷ [])

-- the passage with the serial n leaves the window
abbrev pub cancelled : Contents → ℕ → Contents
cancelled k n = with_window k (without n k.window)

-- the oldest passage of the window
abbrev pub oldest : Contents → List ℕ
oldest k = slice_index_or k.window 0 []

-- the oldest passage leaves the window and is counted as shipped
abbrev pub sent : Contents → Contents
sent k =
    record {
      size = k.size;
      window = drop 1 k.window;
      shipped = k.shipped + 1;
      last = serial_of (oldest k);
      cents = k.cents + charged_of (oldest k);
    }
