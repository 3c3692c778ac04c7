-- A passage and its 64 bytes.
use Rattle.std.specs.Prelude.{ℕ, ◌+◌, List, [], ◌∷◌, ◌++◌, length, take, drop}
use Rattle.byte_strings.specs.Bytes.{big_endian}
use Rattle.passages.specs.Fields.{gate_of, serial_of, time_of, class_of, version_of, full_price_of, discount_of, charged_of, tag_of}
use Rattle.passages.specs.declared.passage.Passage.{Passage}

-- a list with the part written over it from place i on
abbrev pub put_at : ℕ → List ℕ → List ℕ → List ℕ
put_at i part xs = take i xs ++ (part ++ drop (i + length part) xs)

-- gate, serial, time, class, version, two zero bytes, full price, discount, charged, tag
unfoldable pub encoded : Passage → List ℕ
encoded p =
    big_endian 4 p.gate ++ (big_endian 4 p.serial ++ (big_endian 8 p.time
    ++ ((p.class ∷ (p.version ∷ (0 ∷ (0 ∷ []))))
    ++ (big_endian 4 p.full_price ++ (big_endian 4 p.discount ++ (big_endian 4 p.charged ++ p.tag))))))

abbrev pub decoded : List ℕ → Passage
decoded m =
    record {
      gate = gate_of m;
      serial = serial_of m;
      time = time_of m;
      class = class_of m;
      version = version_of m;
      full_price = full_price_of m;
      discount = discount_of m;
      charged = charged_of m;
      tag = tag_of m;
    }
