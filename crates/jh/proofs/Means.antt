-- Over a permutation that means E8, the construction is JH: it asks the permutation for its value at strings of 128 bytes alone.
use Rattle.std.proofs.Common.{◌≡◌, ℕ, zero, suc, ◌*◌, ◌/◌, ◌^◌, ◌<◌, ◌≤◌, Bool, true, false, List, [], ◌∷◌, length, get_or, take, drop, replicate, ap, ◌∙◌, pow-suc, arith, lit<, pow_mono}
use Rattle.std.proofs.lemmas.List.{length-take, length-take-le, length-drop}
use Rattle.byte_strings.specs.Bytes.{Bytes}
use Rattle.byte_strings.proofs.Strings.{bytes_from, small_take, small_drop}
use Rattle.jh.specs.Permutation.{e8}
use Rattle.jh.specs.Compression.{low, high, compress, opening_over, size_bytes}
use Rattle.jh.specs.Message.{value, packed, padded, block, through, tail, digest_of}
use Rattle.jh.specs.Jh.{jh_over, jh, MeansE8}
use Rattle.jh.proofs.Whole.{e8_undone}
use Rattle.jh.proofs.Compression.{low_bytes, compress_bytes, size_bytes_long, zero_block, opening_bytes}
use Rattle.jh.proofs.Lengths.{length_packed, whole_blocks}

-- ---- packed bits are bytes

value_small : (bs : List Bool) → value bs < 2 ^ length bs
value_small [] = lit< tt
value_small (true ∷ bs) = let v = value_small bs in omega (arith, pow-suc 2 (length bs))
value_small (false ∷ bs) = let v = value_small bs in omega (arith, pow-suc 2 (length bs))

pub packed_small : (n : ℕ) (bs : List Bool) (k : ℕ) → get_or (packed n bs) k 0 < 256
packed_small zero bs k = lit< tt
packed_small (suc n) bs zero = let l : length (take 8 bs) ≤ 8 = omega (arith, length-take 8 bs) in omega (arith, value_small (take 8 bs), pow_mono l)
packed_small (suc n) bs (suc k) = packed_small n (drop 8 bs) k

pub block_bytes : (xs : List ℕ) (i : ℕ) → ((k : ℕ) → get_or xs k 0 < 256) → 64 * suc i ≤ length xs → Bytes 64 (block xs i)
block_bytes xs i small h =
    bytes_from 64 (block xs i) (length-take-le 64 (drop (64 * i) xs) (omega (arith, length-drop (64 * i) xs)))
    (small_take 64 (drop (64 * i) xs) (small_drop (64 * i) xs small))

-- ---- E8 for the permutation

e8_kept : (x : List ℕ) → Bytes 128 x → Bytes 128 (e8 x)
e8_kept x b = (e8_undone x b).2

module _ (f : List ℕ → List ℕ) (means : MeansE8 f) (size : ℕ) where
  opening_e8 : opening_over f size ≡ opening_over e8 size
  unfolding opening_over
  opening_e8 = ap (λ (x : List ℕ). high x (replicate 64 0)) (means (low (size_bytes size) (replicate 64 0)) (low_bytes (size_bytes size) (replicate 64 0) (size_bytes_long size) zero_block))

  module _ (xs : List ℕ) (small : (k : ℕ) → get_or xs k 0 < 256) where
    chain_bytes : (n : ℕ) → 64 * n ≤ length xs → Bytes 128 (through (compress e8) (opening_over e8 size) n xs)
    chain_bytes zero h = opening_bytes e8 e8_kept size
    chain_bytes (suc n) h =
        compress_bytes e8 e8_kept (through (compress e8) (opening_over e8 size) n xs) (block xs n) (chain_bytes n (omega arith)) (block_bytes xs n small h)

    through_e8 : (n : ℕ) → 64 * n ≤ length xs → through (compress f) (opening_over f size) n xs ≡ through (compress e8) (opening_over e8 size) n xs
    through_e8 zero h = opening_e8
    through_e8 (suc n) h =
        let c : List ℕ = through (compress e8) (opening_over e8 size) n xs in
        ap (λ (d : List ℕ). compress f d (block xs n)) (through_e8 n (omega arith))
        ∙ ap (λ (x : List ℕ). high x (block xs n)) (means (low c (block xs n)) (low_bytes c (block xs n) (chain_bytes n (omega arith)) (block_bytes xs n small h)))

  pub means_jh : (m : List Bool) → jh_over f size m ≡ jh size m
  unfolding digest_of
  means_jh m =
      let p = padded m in
      let w = whole_blocks m in
      ap (tail size) (through_e8 (packed (length p / 8) p) (packed_small (length p / 8) p) (length p / 512) (omega (arith, length_packed (length p / 8) p)))
