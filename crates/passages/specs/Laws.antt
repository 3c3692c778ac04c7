-- When bytes are decoded, and what encoding and decoding promise of each other.
use Rattle.std.specs.Prelude.{◌≡◌, ℕ, ◌^◌, ◌<◌, true, List}
use Rattle.byte_strings.specs.Bytes.{Bytes}
use Rattle.passages.specs.Fields.{serial_of, formed, priced, zeroed, fits_after}
use Rattle.refusals.specs.Refusals.{next_refusal}
use Rattle.passages.specs.Coding.{encoded, decoded}
use Rattle.passages.specs.declared.passage.Passage.{Passage}

-- the number by which the 64 bytes m are refused after a passage with the serial `last`, or 0
abbrev pub refused_after : (last : ℕ) (m : List ℕ) → ℕ
refused_after last m = next_refusal last (serial_of m) (formed m) (priced m)

-- p is the passage in the 64 bytes m; encoded, it gives them again where bytes 18 and 19 are zero
pub record Reads (m : List ℕ) (p : Passage) : Type 0 where
  pub fields : p ≡ decoded m
  pub bytes : zeroed m ≡ true → encoded p ≡ m

-- p is the passage in the 64 bytes m, and may stand after one with the serial `last`
pub record Decodes (last : ℕ) (m : List ℕ) (p : Passage) : Type 0 where
  pub fields : p ≡ decoded m
  pub bytes : encoded p ≡ m
  pub fits : fits_after last m ≡ true

-- the fields have the widths that the 64 bytes give them
pub record Fits (p : Passage) : Type 0 where
  pub gate : p.gate < 2 ^ 32
  pub serial : p.serial < 2 ^ 32
  pub time : p.time < 2 ^ 64
  pub class : p.class < 2 ^ 8
  pub version : p.version < 2 ^ 8
  pub full_price : p.full_price < 2 ^ 32
  pub discount : p.discount < 2 ^ 32
  pub charged : p.charged < 2 ^ 32
  pub tag : Bytes 32 p.tag

-- encoding what was decoded gives the same 64 bytes, every one of them
abbrev pub EncodingUndoes : Type 0
EncodingUndoes = (m : List ℕ) → Bytes 64 m → zeroed m ≡ true → encoded (decoded m) ≡ m

-- decoding gives the passage that was encoded
abbrev pub DecodingUndoes : Type 0
DecodingUndoes = (p : Passage) → Fits p → decoded (encoded p) ≡ p
