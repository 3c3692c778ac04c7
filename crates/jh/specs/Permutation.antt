-- The permutation E8 of 128 bytes, and its inverse.
use Rattle.std.specs.Prelude.{ℕ, zero, suc, ◌+◌, ◌-◌, ◌*◌, ◌/◌, ◌%◌, Bool, List, [], ◌∷◌, map, slice_index}
use Rattle.std.specs.List.{range_with_len}
use Rattle.jh.specs.Bit.{bit, element}
use Rattle.jh.specs.Round.{round}
use Rattle.jh.specs.Constants.{constant}

-- bit j of a row of bytes, the highest bit of byte 0 first
abbrev pub byte_bit : List ℕ → ℕ → Bool
byte_bit x j = bit (slice_index x (j / 8)) (7 - j % 8)

-- the element at a place p: even places take their bits from A^i, odd ones from A^(i + 128)
abbrev pub element_from : List ℕ → ℕ → ℕ
element_from x p = let i : ℕ = p % 2 * 128 + p / 2 in
    element (byte_bit x i) (byte_bit x (i + 256)) (byte_bit x (i + 512)) (byte_bit x (i + 768))

unfoldable pub group : List ℕ → List ℕ
group x = map (element_from x) (range_with_len 0 256)

-- bit j of the grouped state's 1,024
abbrev pub grouped_bit : List ℕ → ℕ → Bool
grouped_bit q j = bit (slice_index q (2 * (j % 128) + j / 128 % 2)) (3 - j / 256)

abbrev pub byte_from : List ℕ → ℕ → ℕ
byte_from q b =
    16 * element (grouped_bit q (8 * b)) (grouped_bit q (8 * b + 1)) (grouped_bit q (8 * b + 2)) (grouped_bit q (8 * b + 3))
    + element (grouped_bit q (8 * b + 4)) (grouped_bit q (8 * b + 5)) (grouped_bit q (8 * b + 6)) (grouped_bit q (8 * b + 7))

unfoldable pub ungroup : List ℕ → List ℕ
ungroup q = map (byte_from q) (range_with_len 0 128)

-- the bits of a row of elements
abbrev pub bits : List ℕ → List Bool
bits [] = []
bits (a ∷ xs) = bit a 3 ∷ (bit a 2 ∷ (bit a 1 ∷ (bit a 0 ∷ bits xs)))

-- r rounds
unfoldable pub after : ℕ → List ℕ → List ℕ
after zero q = q
after (suc r) q = round (bits (constant r)) (after r q)

unfoldable pub e8 : List ℕ → List ℕ
e8 x = ungroup (after 42 (group x))
