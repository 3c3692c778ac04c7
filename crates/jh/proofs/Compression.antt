-- Compression and its way back undo each other, over any two functions that do.
use Rattle.std.proofs.Common.{◌≡◌, ℕ, ◌≤◌, List, ◌++◌, length, take, drop, replicate, refl, ap, ◌∙◌, ap₂, arith}
use borrow.Rule.Slice.PartMut.{put_mid, post_of}
use Rattle.std.proofs.lemmas.List.{take_all, drop_all, append-nil, take_at, drop_at, take-append-drop, length-take-le, length-drop, length-append}
use Rattle.byte_strings.specs.Bytes.{Bytes, xored, big_endian}
use Rattle.byte_strings.proofs.Strings.{everywhere, bytes_from, small_append, small_take, small_drop, small_zeros, small_big_endian}
use Rattle.byte_strings.proofs.Xored.{length_xored, xored_twice, xored_small, xored_front}
use Rattle.jh.specs.Compression.{low, high, compress, uncompress, size_bytes, opening_over}

-- ---- a block in one half

pub low_bytes : (c m : List ℕ) → Bytes 128 c → Bytes 64 m → Bytes 128 (low c m)
unfolding low
low_bytes c m b k = bytes_from 128 (xored c m) (length_xored c m ∙ b.len) (xored_small c m (everywhere b) (everywhere k))

pub low_low : (c m : List ℕ) → low (low c m) m ≡ c
unfolding low
low_low c m = xored_twice c m

module _ (c m : List ℕ) (b : Bytes 128 c) (k : Bytes 64 m) where
  front : length (take 64 c) ≡ 64
  front = let n = b.len in length-take-le 64 c (omega arith)

  pub high_bytes : Bytes 128 (high c m)
  unfolding high
  high_bytes =
      bytes_from 128 (take 64 c ++ xored (drop 64 c) m)
      (length-append (take 64 c) (xored (drop 64 c) m)
      ∙ (let n = b.len in omega (arith, front, length_xored (drop 64 c) m, length-drop 64 c)))
      (small_append (take 64 c) (xored (drop 64 c) m) (small_take 64 c (everywhere b)) (xored_small (drop 64 c) m (small_drop 64 c (everywhere b)) (everywhere k)))

  pub high_high : high (high c m) m ≡ c
  unfolding high
  high_high =
      ap₂ (λ (x y : List ℕ). x ++ xored y m) (take_at (take 64 c) (xored (drop 64 c) m) 64 front) (drop_at (take 64 c) (xored (drop 64 c) m) 64 front)
      ∙ ap (λ (y : List ℕ). take 64 c ++ y) (xored_twice (drop 64 c) m)
      ∙ take-append-drop 64 c

-- a half after the exclusive or, as a write to a part of the chain value is read
pub put_low : (c m y : List ℕ) → length m ≡ 64 → y ≡ xored (take 64 c) m → y ++ post_of 0 64 c ≡ low c m
unfolding low
put_low c m y n e = ap (λ (z : List ℕ). z ++ drop 64 c) e ∙ xored_front 64 c m (omega arith)

pub put_high : (c m y : List ℕ) → length c ≡ 128 → y ≡ xored (take 64 (drop 64 c)) m → put_mid 64 64 c y ≡ high c m
unfolding high
put_high c m y n e =
    let d = length-drop 64 c in
    let r : length (drop 64 c) ≤ 64 = omega arith in
    ap₂ (λ (z w : List ℕ). take 64 c ++ (z ++ w)) (e ∙ ap (λ (z : List ℕ). xored z m) (take_all 64 (drop 64 c) r)) (drop_all 64 (drop 64 c) r)
    ∙ ap (λ (z : List ℕ). take 64 c ++ z) (append-nil (xored (drop 64 c) m))

-- ---- the two rules, from those of the permutation

module _ (f g : List ℕ → List ℕ) (undone : (x : List ℕ) → Bytes 128 x → g (f x) ≡ x) (kept : (x : List ℕ) → Bytes 128 x → Bytes 128 (f x))
    (c m : List ℕ) (b : Bytes 128 c) (k : Bytes 64 m) where
  pub compress_undone : uncompress g (compress f c m) m ≡ c
  compress_undone =
      let l = low_bytes c m b k in
      ap (λ (x : List ℕ). low (g x) m) (high_high (f (low c m)) m (kept (low c m) l) k)
      ∙ ap (λ (x : List ℕ). low x m) (undone (low c m) l)
      ∙ low_low c m

  pub uncompress_undone : compress g (uncompress f c m) m ≡ c
  uncompress_undone =
      let h = high_bytes c m b k in
      ap (λ (x : List ℕ). high (g x) m) (low_low (f (high c m)) m)
      ∙ ap (λ (x : List ℕ). high x m) (undone (high c m) h)
      ∙ high_high c m b k

pub compress_bytes : (f : List ℕ → List ℕ) → ((x : List ℕ) → Bytes 128 x → Bytes 128 (f x)) → (c m : List ℕ) → Bytes 128 c → Bytes 64 m → Bytes 128 (compress f c m)
compress_bytes f kept c m b k = high_bytes (f (low c m)) m (kept (low c m) (low_bytes c m b k)) k

-- ---- the opening value

pub size_bytes_long : (n : ℕ) → Bytes 128 (size_bytes n)
size_bytes_long n = bytes_from 128 (size_bytes n) refl (small_append (big_endian 2 n) (replicate 126 0) (small_big_endian 2 n) (small_zeros 126))

pub zero_block : Bytes 64 (replicate 64 0)
zero_block = bytes_from 64 (replicate 64 0) refl (small_zeros 64)

pub opening_bytes : (f : List ℕ → List ℕ) → ((x : List ℕ) → Bytes 128 x → Bytes 128 (f x)) → (n : ℕ) → Bytes 128 (opening_over f n)
unfolding opening_over
opening_bytes f kept n = compress_bytes f kept (size_bytes n) (replicate 64 0) (size_bytes_long n) zero_block
