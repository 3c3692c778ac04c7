-- Lower-case hexadecimal, two digits to a byte, the high half first.
use Rattle.std.specs.Prelude.{ℕ, ◌+◌, ◌-◌, ◌*◌, ◌/◌, ◌%◌, Bool, true, cond, ◌&&◌, ◌||◌, List, [], ◌∷◌, length, Some, None, Option, ◌==◌, nat_le, nat_lt}

abbrev pub is_hex_digit : ℕ → Bool
is_hex_digit b = (nat_le 48 b && nat_le b 57) || (nat_le 97 b && nat_le b 102)

abbrev pub all_hex : List ℕ → Bool
all_hex [] = true
all_hex (b ∷ bs) = is_hex_digit b && all_hex bs

-- the value of a digit
abbrev pub nibble : ℕ → ℕ
nibble b = cond (nat_le b 57) (b - 48) (b - 87)

-- the digit of a value below 16
abbrev pub hex_digit : ℕ → ℕ
hex_digit n = cond (nat_lt n 10) (n + 48) (n + 87)

-- the digits of bytes
abbrev pub hex_of : List ℕ → List ℕ
hex_of [] = []
hex_of (b ∷ bs) = hex_digit (b / 16) ∷ (hex_digit (b % 16) ∷ hex_of bs)

-- the bytes that pairs of digits write
abbrev pub bytes_of : List ℕ → List ℕ
bytes_of [] = []
bytes_of (a ∷ []) = []
bytes_of (a ∷ (b ∷ ds)) = (16 * nibble a + nibble b) ∷ bytes_of ds

-- the n bytes of a hexadecimal field
abbrev pub read_hex : ℕ → List ℕ → Option (List ℕ)
read_hex n ds = cond (length ds == 2 * n && all_hex ds) (Some (bytes_of ds)) None
