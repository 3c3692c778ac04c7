-- What the contents of a roll are to the daybook, and what the tests on them find.
use Rattle.std.specs.Prelude.{◌≡◌, ℕ, ◌*◌, ◌<◌, ◌≤◌, true, List, length, Some, None, Ok, Err, Option, Result}
use Rattle.std.specs.List.{remove}
use Rattle.refusals.specs.declared.refusal.Refusal.{Refusal}
use Rattle.byte_strings.specs.Bytes.{Bytes}
use Rattle.refusals.specs.Sizes.{is_size, bits_in}
use Rattle.passages.specs.Coding.{encoded}
use Rattle.passages.specs.Fields.{fits_after}
use Rattle.passages.specs.Rows.{in_order}
use Rattle.passages.specs.declared.passage.Passage.{Passage}
use Rattle.window.specs.Listed.{listed}
use Rattle.daybook.specs.Contents.{Contents, standing_count, charged_cents, top_serial, with_window, passed, oldest, sent}
use Rattle.roll_contents.specs.declared.contents.RollContents.{RollContents}
use Rattle.roll_contents.specs.declared.contents.Total.{Total}

abbrev pub contents_of : RollContents → Contents
contents_of k =
    record {
      size = bits_in k.size;
      window = listed k.window;
      shipped = k.shipped.count;
      last = k.shipped.last;
      cents = k.shipped.cents;
    }

-- what is true of the contents of every roll, by whatever calls it came
pub record WellFormed (k : Contents) : Type 0 where
  pub size : is_size k.size ≡ true
  pub few : length k.window ≤ 32
  pub most : standing_count k ≤ 1000000
  -- each passage of the window may stand after the one before it, and the first after the last one shipped
  pub order : in_order k.last k.window ≡ true
  -- serials have four bytes and rise from 1 on
  pub high : k.last ≤ 4294967295
  pub risen : k.shipped ≤ k.last
  -- nothing shipped leaves no serial and no cents; cents have four bytes for each passage
  pub fresh : k.last ≤ k.shipped * 4294967295
  pub paid : k.cents ≤ k.shipped * 4294967295

-- the charged cents and the count of all standing passages
abbrev pub total_of : Contents → Total
total_of k = record { cents = charged_cents k; count = standing_count k }

-- p is the passage in the bytes m, and may join the contents k
pub record Admits (k : Contents) (m : List ℕ) (p : Passage) : Type 0 where
  pub bytes : encoded p ≡ m
  pub wide : Bytes 64 m
  pub room : length k.window < 32
  pub standing : standing_count k < 1000000
  pub fits : fits_after (top_serial k) m ≡ true

-- the bytes m join the contents k, as the passage p; or k stays
abbrev pub Enters : (k : Contents) (m : List ℕ) (k' : Contents) → Result Passage Refusal → Type 0
Enters k m k' (Ok p) = (encoded p ≡ m) × Bytes 64 m × (k' ≡ passed k m)
Enters k m k' (Err e) = k' ≡ k

-- without the passage at place i of the window
abbrev pub less_one : Contents → ℕ → Contents
less_one k i = with_window k (remove k.window i)

-- the oldest passage is shipped, if there is one
abbrev pub Sends : (k k' : Contents) → Option Passage → Type 0
Sends k k' (Some p) = (encoded p ≡ oldest k) × (0 < length k.window) × (k' ≡ sent k)
Sends k k' None = (length k.window ≡ 0) × (k' ≡ k)
