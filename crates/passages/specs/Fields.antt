-- The fields of a passage in its 64 bytes. Numbers of several bytes have the high byte first.
use Rattle.std.specs.Prelude.{ℕ, ◌+◌, ◌*◌, Bool, ◌&&◌, List, drop, ◌==◌, nat_le, nat_lt, slice_index}

-- the number in the four bytes from place i on
abbrev pub word : List ℕ → ℕ → ℕ
word m i = slice_index m i * 16777216 + slice_index m (i + 1) * 65536 + slice_index m (i + 2) * 256 + slice_index m (i + 3)

abbrev pub gate_of : List ℕ → ℕ
gate_of m = word m 0

abbrev pub serial_of : List ℕ → ℕ
serial_of m = word m 4

-- in seconds
abbrev pub time_of : List ℕ → ℕ
time_of m = word m 8 * 4294967296 + word m 12

abbrev pub class_of : List ℕ → ℕ
class_of m = slice_index m 16

-- of the tariff table
abbrev pub version_of : List ℕ → ℕ
version_of m = slice_index m 17

-- the three prices, in cents
abbrev pub full_price_of : List ℕ → ℕ
full_price_of m = word m 20

abbrev pub discount_of : List ℕ → ℕ
discount_of m = word m 24

abbrev pub charged_of : List ℕ → ℕ
charged_of m = word m 28

abbrev pub tag_of : List ℕ → List ℕ
tag_of m = drop 32 m

-- bytes 18 and 19 are zero
abbrev pub zeroed : List ℕ → Bool
zeroed m = slice_index m 18 == 0 && slice_index m 19 == 0

-- a class from 1 to 9, a version from 1 to 4, and two zero bytes
abbrev pub formed : List ℕ → Bool
formed m = nat_le 1 (class_of m) && (nat_le (class_of m) 9 && (nat_le 1 (version_of m) && (nat_le (version_of m) 4 && zeroed m)))

-- charged plus discount is the full price
abbrev pub priced : List ℕ → Bool
priced m = charged_of m + discount_of m == full_price_of m

-- m may stand after a passage with the serial n
abbrev pub fits_after : ℕ → List ℕ → Bool
fits_after n m = nat_lt n (serial_of m) && (formed m && priced m)
