-- Stepping through the blocks of a string of bytes that grows at its end.
use Rattle.std.proofs.Common.{◌≡◌, ℕ, zero, suc, ◌+◌, ◌*◌, ◌/◌, ◌%◌, ◌<◌, ◌≤◌, List, [], ◌++◌, length, take, drop, refl, ap, ◌∙◌, arith}
use Rattle.std.proofs.lemmas.List.{length-append, length-drop, take-append-le, drop-append-le, take_all, drop_all}
use Rattle.jh.specs.Message.{block, rest, through}

module _ (step : List ℕ → List ℕ → List ℕ) (opening m x : List ℕ) where
  -- whole blocks stay when bytes are put behind
  pub through_append : (n : ℕ) → 64 * n ≤ length m → through step opening n (m ++ x) ≡ through step opening n m
  through_append zero h = refl
  through_append (suc n) h =
      let i = through_append n (omega arith) in
      let l : 64 * n ≤ length m = omega arith in
      let d = drop-append-le (64 * n) m x l in
      let k : 64 ≤ length (drop (64 * n) m) = omega (arith, length-drop (64 * n) m) in
      let t = take-append-le 64 (drop (64 * n) m) x k in
      cc

module _ (m x : List ℕ) where
  pub length_rest : length (rest m) ≡ length m % 64
  length_rest = omega (arith, length-drop (64 * (length m / 64)) m)

  -- what is put behind goes to the rest, where no block becomes whole
  pub rest_part : length m % 64 + length x < 64 → rest (m ++ x) ≡ rest m ++ x
  rest_part h =
      let n = length-append m x in
      let q : length (m ++ x) / 64 ≡ length m / 64 = omega arith in
      let l : 64 * (length m / 64) ≤ length m = omega arith in
      ap (λ (k : ℕ). drop (64 * k) (m ++ x)) q ∙ drop-append-le (64 * (length m / 64)) m x l

  -- the block that becomes whole, and no rest
  pub block_whole : length m % 64 + length x ≡ 64 → block (m ++ x) (length m / 64) ≡ rest m ++ x
  block_whole h =
      let l : 64 * (length m / 64) ≤ length m = omega arith in
      ap (take 64) (drop-append-le (64 * (length m / 64)) m x l)
      ∙ take_all 64 (rest m ++ x) (omega (arith, length-append (rest m) x, length-drop (64 * (length m / 64)) m))

  pub rest_whole : length m % 64 + length x ≡ 64 → rest (m ++ x) ≡ []
  rest_whole h =
      let n = length-append m x in
      drop_all (64 * (length (m ++ x) / 64)) (m ++ x) (omega arith)
