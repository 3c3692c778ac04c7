-- The JH hash functions: JH-224, JH-256, JH-384 and JH-512 are jh at these sizes.
use Rattle.std.specs.Prelude.{◌≡◌, ℕ, Bool, List}
use Rattle.byte_strings.specs.Bytes.{Bytes}
use Rattle.jh.specs.Permutation.{e8}
use Rattle.jh.specs.Compression.{compress, opening_over}
use Rattle.jh.specs.Message.{digest_of}

-- the construction over any permutation of 128 bytes
abbrev pub jh_over : (List ℕ → List ℕ) → ℕ → List Bool → List ℕ
jh_over permutation size m = digest_of (compress permutation) (opening_over permutation size) size m

-- the digest of `size` bits of a message in bits
abbrev pub jh : ℕ → List Bool → List ℕ
jh = jh_over e8

-- a permutation means E8: it is E8 on every 128 bytes
abbrev pub MeansE8 : (List ℕ → List ℕ) → Type 0
MeansE8 permutation = (x : List ℕ) → Bytes 128 x → permutation x ≡ e8 x
