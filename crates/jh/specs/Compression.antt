-- The compression function of JH over a permutation of 128 bytes; with E8 it is F8.
use Rattle.std.specs.Prelude.{ℕ, ◌*◌, List, ◌∷◌, ◌++◌, take, drop, replicate}
use Rattle.byte_strings.specs.Bytes.{xored, big_endian}
use Rattle.jh.specs.Permutation.{e8}

-- the block m goes into bytes 0 to 63 of the chain value c, or into bytes 64 to 127
unfoldable pub low : List ℕ → List ℕ → List ℕ
low c m = xored c m

unfoldable pub high : List ℕ → List ℕ → List ℕ
high c m = take 64 c ++ xored (drop 64 c) m

-- a block goes into the first half, then the permutation, then the block goes into the second half
abbrev pub compress : (List ℕ → List ℕ) → List ℕ → List ℕ → List ℕ
compress permutation c m = high (permutation (low c m)) m

-- the chain value from which `compress` came to c with the block m, by the inverse of the permutation
abbrev pub uncompress : (List ℕ → List ℕ) → List ℕ → List ℕ → List ℕ
uncompress inverse c m = low (inverse (high c m)) m

abbrev pub f8 : List ℕ → List ℕ → List ℕ
f8 = compress e8

-- a digest size in bytes 0 and 1, and zeros
abbrev pub size_bytes : ℕ → List ℕ
size_bytes size = big_endian 2 size ++ replicate 126 0

-- the opening value of a digest size: a zero block is compressed into the size
unfoldable pub opening_over : (List ℕ → List ℕ) → ℕ → List ℕ
opening_over permutation size = compress permutation (size_bytes size) (replicate 64 0)

-- the last block of a message of n whole blocks: a one bit, zeros, and the count of bits
unfoldable pub ending_block : ℕ → List ℕ
ending_block n = 0x80 ∷ (replicate 47 0 ++ big_endian 16 (512 * n))
