-- The bytes after a half of a word is written.
use Rattle.std.proofs.Common.{◌≡◌, ℕ, ◌+◌, ◌-◌, ◌*◌, ◌/◌, ◌%◌, ◌<◌, ◌≤◌, List, ◌++◌, length, get_or, take, drop, sym, ap, ◌∙◌, subst, ap₂, arith}
use lib.Lanes.{put_chunk}
use Rattle.std.proofs.lemmas.Simd.{put_chunk_is, length-put_chunk, get_or-put_chunk_at, get_or-put_chunk_below}
use Rattle.byte_strings.specs.Bytes.{Bytes, big_endian}
use Rattle.byte_strings.proofs.Strings.{bytes_from, small_append, small_take, small_drop, small_big_endian}
use Rattle.jh.specs.Bit.{bit}
use Rattle.jh.specs.Permutation.{byte_bit}
use Rattle.slicing.proofs.BigEndian.{big_endian_bit}
use Rattle.words.specs.Eight.{HalfAt}

module _ (x : List ℕ) (at n : ℕ) (long : length x ≡ 128) (fits : at + 8 ≤ 128) where
  abbrev put : List ℕ
  put = put_chunk at x (big_endian 8 n)

  pub put_here : HalfAt put at n
  put_here j h =
      let q : at + j / 8 ≡ (8 * at + j) / 8 = omega arith in
      let r : j % 8 ≡ (8 * at + j) % 8 = omega arith in
      let lt : j / 8 < 8 = omega arith in
      sym (big_endian_bit 8 n j h)
      ∙ ap (λ (b : ℕ). bit b (7 - j % 8)) (sym (get_or-put_chunk_at at x (big_endian 8 n) (j / 8) 0 lt (omega arith)))
      ∙ ap₂ (λ (u v : ℕ). bit (get_or put u 0) (7 - v)) q r

  pub put_below : (j : ℕ) → j < 8 * at → byte_bit put j ≡ byte_bit x j
  put_below j h = ap (λ (b : ℕ). bit b (7 - j % 8)) (get_or-put_chunk_below at x (big_endian 8 n) (j / 8) 0 (omega arith))

  pub put_bytes : ((k : ℕ) → get_or x k 0 < 256) → Bytes 128 put
  put_bytes s =
      let y : List ℕ = big_endian 8 n in
      bytes_from 128 put (length-put_chunk at x y ∙ long)
      (subst (λ (z : List ℕ). (k : ℕ) → get_or z k 0 < 256) (sym (put_chunk_is at x y (omega arith)))
      (small_append (take at x) (y ++ drop 8 (drop at x)) (small_take at x s)
      (small_append y (drop 8 (drop at x)) (small_big_endian 8 n) (small_drop 8 (drop at x) (small_drop at x s)))))
