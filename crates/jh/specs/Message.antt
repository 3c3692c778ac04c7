-- Messages in bits: padding, blocks, and the digest of a message over any compression function.
use Rattle.std.specs.Prelude.{◌≡◌, ℕ, zero, suc, ◌+◌, ◌-◌, ◌*◌, ◌/◌, ◌%◌, ◌^◌, Bool, true, false, cond, List, [], ◌∷◌, ◌++◌, length, take, drop, replicate}
use Rattle.jh.specs.Bit.{low_bits}

-- the bits of a string of bytes
abbrev pub bits_of : List ℕ → List Bool
bits_of [] = []
bits_of (x ∷ xs) = low_bits 8 x ++ bits_of xs

-- the number that the bits spell
abbrev pub value : List Bool → ℕ
value [] = 0
value (b ∷ bs) = cond b (2 ^ length bs) 0 + value bs

-- the first n bytes of a string of bits
abbrev pub packed : ℕ → List Bool → List ℕ
packed zero bs = []
packed (suc n) bs = value (take 8 bs) ∷ packed n (drop 8 bs)

-- how many zero bits stand behind the one bit of a message of b bits: 383 + (−b mod 512)
abbrev pub zero_bits : ℕ → ℕ
zero_bits b = 383 + (512 - b % 512) % 512

-- the message, a one bit, the zero bits, and the count of the message's bits in 128 bits
unfoldable pub padded : List Bool → List Bool
padded m = m ++ (true ∷ (replicate (zero_bits (length m)) false ++ low_bits 128 (length m)))

-- block i of a string of bytes
abbrev pub block : List ℕ → ℕ → List ℕ
block m i = take 64 (drop (64 * i) m)

-- the bytes behind the last whole block
abbrev pub rest : List ℕ → List ℕ
rest m = drop (64 * (length m / 64)) m

-- the chain value after the first n blocks of m
abbrev pub through : (List ℕ → List ℕ → List ℕ) → List ℕ → ℕ → List ℕ → List ℕ
through step opening zero m = opening
through step opening (suc n) m = step (through step opening n m) (block m n)

-- the last bytes of a chain value, as many as a digest of the size has
abbrev pub tail : ℕ → List ℕ → List ℕ
tail size chain = drop (128 - size / 8) chain

-- the digest of a message: the opening value is stepped through the blocks of the padded message, and the tail is taken
unfoldable pub digest_of : (List ℕ → List ℕ → List ℕ) → List ℕ → ℕ → List Bool → List ℕ
digest_of step opening size m =
    tail size (through step opening (length (padded m) / 512) (packed (length (padded m) / 8) (padded m)))

-- a padded message is a row of whole blocks
abbrev pub WholeBlocks : Type 0
WholeBlocks = (m : List Bool) → length (padded m) % 512 ≡ 0
