-- A drill step and its way back undo each other.
use Rattle.std.specs.Prelude.{◌≡◌, ℕ, ◌+◌, List, ◌++◌, length, take, drop}
use Rattle.std.proofs.Math.Path.{refl, ap}
use Rattle.std.proofs.Common.{◌∙◌, arith}
use Rattle.std.proofs.lemmas.List.{length-take, length-drop, length-append, take_at, drop_at, take-append-drop}
use Rattle.byte_strings.specs.Bytes.{Bytes}
use Rattle.byte_strings.proofs.Strings.{everywhere, bytes_from, small_append, small_take, small_drop}
use Rattle.jh.specs.Compression.{high}
use Rattle.jh.proofs.Compression.{high_bytes, high_high}
use Rattle.drill_press.specs.Drill.{stepped, stepped_back}

-- the first n of 128 bytes go to the end
rotated : ℕ → List ℕ → List ℕ
rotated n c = drop n c ++ take n c

rotated_bytes : (n : ℕ) (c : List ℕ) → Bytes 128 c → Bytes 128 (rotated n c)
unfolding rotated
rotated_bytes n c b =
    bytes_from 128 (drop n c ++ take n c) (let e = b.len in simp (length-append, length-drop, length-take) (omega arith))
    (small_append (drop n c) (take n c) (small_drop n c (everywhere b)) (small_take n c (everywhere b)))

-- a rotation by n and one by the rest are none
rotated_back : (n k : ℕ) (c : List ℕ) → n + k ≡ 128 → length c ≡ 128 → rotated k (rotated n c) ≡ c
unfolding rotated
rotated_back n k c e l =
    let d : length (drop n c) ≡ k = simp length-drop (omega arith) in
    let f = take_at (drop n c) (take n c) k d in
    let g = drop_at (drop n c) (take n c) k d in
    let w = take-append-drop n c in
    cc

module _ (c m : List ℕ) (b : Bytes 128 c) (k : Bytes 64 m) where
  pub stepped_bytes : Bytes 128 (stepped c m)
  unfolding stepped rotated
  stepped_bytes = high_bytes (drop 1 c ++ take 1 c) m (rotated_bytes 1 c b) k

  pub step_undone : stepped_back (stepped c m) m ≡ c
  unfolding stepped stepped_back rotated
  step_undone =
      ap (λ (x : List ℕ). drop 127 x ++ take 127 x) (high_high (drop 1 c ++ take 1 c) m (rotated_bytes 1 c b) k)
      ∙ rotated_back 1 127 c refl b.len

  pub back_undone : stepped (stepped_back c m) m ≡ c
  unfolding stepped stepped_back rotated
  back_undone =
      ap (λ (x : List ℕ). high x m) (rotated_back 127 1 (high c m) refl (high_bytes c m b k).len)
      ∙ high_high c m b k
