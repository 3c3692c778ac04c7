-- Which rolls are valid.
use Rattle.std.specs.Prelude.{◌≡◌, ◌+◌, ◌*◌, ◌≤◌, true, length, decimal}
use Rattle.std.specs.List.{AllByRecursion}
use Rattle.byte_strings.specs.Bytes.{Bytes}
use Rattle.refusals.specs.Sizes.{is_size}
use Rattle.passages.specs.Rows.{in_order}
use Rattle.text_laws.specs.Saved.{Saved}
use Rattle.text_laws.specs.Written.{text_of}

-- the chain value has 128 bytes and each passage 64; then the text has the length that its numbers say
pub record Wide (s : Saved) : Type 0 where
  pub chain : Bytes 128 s.chain
  pub blocks : AllByRecursion (Bytes 64) s.window
  pub long : length (text_of s)
      ≡ (10 + (length (decimal s.size) + (length (decimal s.shipped) + (length (decimal s.last) + (length (decimal s.cents) + length (decimal (length s.window))))))) + (263 + 134 * length s.window)

pub record Valid (s : Saved) : Type 0 where
  pub size : is_size s.size ≡ true
  pub few : length s.window ≤ 32
  pub most : s.shipped + length s.window ≤ 1000000
  -- a serial has four bytes, and serials rise
  pub high : s.last ≤ 4294967295
  pub risen : s.shipped ≤ s.last
  pub fresh : s.shipped ≡ 0 → (s.last ≡ 0) × (s.cents ≡ 0)
  -- so do prices
  pub paid : s.cents ≤ s.shipped * 4294967295
  pub chain : Bytes 128 s.chain
  pub blocks : AllByRecursion (Bytes 64) s.window
  -- each passage is of the form, rightly priced, and has a serial above the one before; the first above the last shipped
  pub order : in_order s.last s.window ≡ true
