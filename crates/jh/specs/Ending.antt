-- The padding of a message in bytes: what follows the message's whole bytes.
use Rattle.std.specs.Prelude.{ℕ, ◌+◌, ◌-◌, ◌*◌, ◌/◌, ◌%◌, ◌^◌, List, ◌∷◌, ◌++◌, replicate}
use Rattle.byte_strings.specs.Bytes.{big_endian}
use Rattle.jh.specs.Message.{zero_bits}

-- the first r bits of the byte x, the one bit behind them, and zeros
abbrev pub marked : ℕ → ℕ → ℕ
marked r x = x % 256 / 2 ^ (8 - r) * 2 ^ (8 - r) + 2 ^ (7 - r)

-- how many zero bytes stand behind the byte with the one bit of a message of b bits
abbrev pub zero_bytes : ℕ → ℕ
zero_bytes b = (zero_bits b - (7 - b % 8)) / 8

-- what follows the whole bytes of a message of b bits: the byte `last` with its last bits and the one bit, zeros, and b in 16 bytes
unfoldable pub ending : ℕ → ℕ → List ℕ
ending last b = last ∷ (replicate (zero_bytes b) 0 ++ big_endian 16 b)
