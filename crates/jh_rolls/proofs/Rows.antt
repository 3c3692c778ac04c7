-- A chain value stepped through whole blocks and the ending block for their count is JH's of the blocks joined.
use Rattle.std.proofs.Common.{◌≡◌, ℕ, zero, suc, ◌+◌, ◌*◌, ◌/◌, ◌<◌, ◌≤◌, List, [], ◌∷◌, ◌++◌, length, get_or, take, drop, replicate, fold, sym, refl, ap, ◌∙◌, ap₂, arith}
use Rattle.std.specs.List.{AllByRecursion}
use Rattle.std.proofs.lemmas.List.{length-append, take_all, take_at, drop_at, drop-drop}
use Rattle.std.proofs.lemmas.List.Sums.{fold_more}
use Rattle.byte_strings.specs.Bytes.{Bytes, big_endian}
use Rattle.byte_strings.proofs.Strings.{everywhere, small_append}
use Rattle.jh.specs.Compression.{compress, opening_over, ending_block}
use Rattle.jh.specs.Message.{bits_of, block, through, tail, digest_of}
use Rattle.jh.specs.Ending.{zero_bytes, ending}
use Rattle.jh.specs.Jh.{jh, MeansE8}
use Rattle.jh.proofs.Blocks.{through_append}
use Rattle.jh.proofs.Padded.{digest_whole_bytes}
use Rattle.jh.proofs.Means.{means_jh}
use Rattle.jh_rolls.specs.Message.{in_a_row}

length_row : (ms : List (List ℕ)) → AllByRecursion (Bytes 64) ms → length (in_a_row ms) ≡ 64 * length ms
length_row [] h = refl
length_row (m ∷ ms) h = omega (arith, length-append m (in_a_row ms), h.0.len, length_row ms h.1)

small_row : (ms : List (List ℕ)) → AllByRecursion (Bytes 64) ms → (k : ℕ) → get_or (in_a_row ms) k 0 < 256
small_row [] h k = omega arith
small_row (m ∷ ms) h k = small_append m (in_a_row ms) (everywhere h.0) (small_row ms h.1) k

-- a block of the row is the passage at that place
block_row : (ms : List (List ℕ)) (i : ℕ) → AllByRecursion (Bytes 64) ms → i < length ms → block (in_a_row ms) i ≡ get_or ms i []
block_row [] i h l = absurd (omega arith)
block_row (m ∷ ms) zero h l = take_at m (in_a_row ms) 64 h.0.len
block_row (m ∷ ms) (suc i) h l =
    let e : 64 * suc i ≡ 64 + 64 * i = omega arith in
    ap (λ (j : ℕ). take 64 (drop j (m ++ in_a_row ms))) e
    ∙ ap (take 64) (sym (drop-drop (64 * i) 64 (m ++ in_a_row ms)) ∙ ap (drop (64 * i)) (drop_at m (in_a_row ms) 64 h.0.len))
    ∙ block_row ms i h.1 (omega arith)

module _ (step : List ℕ → List ℕ → List ℕ) (opening : List ℕ) (ms : List (List ℕ)) (wide : AllByRecursion (Bytes 64) ms) where
  through_row : (i : ℕ) → i ≤ length ms → through step opening i (in_a_row ms) ≡ fold step opening (take i ms)
  through_row zero h = refl
  through_row (suc i) h =
      let e : suc i ≡ i + 1 = omega arith in
      ap₂ step (through_row i (omega arith)) (block_row ms i wide (omega arith))
      ∙ sym (ap (λ (j : ℕ). fold step opening (take j ms)) e ∙ fold_more step opening ms i [] (omega arith))

  bits_row : 8 * length (in_a_row ms) ≡ 512 * length ms
  bits_row = omega (arith, length_row ms wide)

  -- what is put behind whole blocks
  ending_row : ending 128 (8 * length (in_a_row ms)) ≡ ending_block (length ms)
  unfolding ending ending_block
  ending_row =
      let n = length ms in
      let z : zero_bytes (512 * n) ≡ 47 = omega arith in
      ap (λ (b : ℕ). 128 ∷ (replicate (zero_bytes b) 0 ++ big_endian 16 b)) bits_row
      ∙ ap (λ (k : ℕ). 128 ∷ (replicate k 0 ++ big_endian 16 (512 * n))) z

  length_last : length (ending_block (length ms)) ≡ 64
  unfolding ending_block
  length_last = refl

  pub digest_row : (size : ℕ) → tail size (step (fold step opening ms) (ending_block (length ms))) ≡ digest_of step opening size (bits_of (in_a_row ms))
  digest_row size =
      let m = in_a_row ms in
      let n = length ms in
      let e = ending_block n in
      let lm = length_row ms wide in
      let count : length (m ++ e) / 64 ≡ suc n = omega (arith, length-append m e, length_last, lm) in
      let front : through step opening n (m ++ e) ≡ fold step opening ms =
      through_append step opening m e n (omega arith) ∙ through_row n (omega arith) ∙ ap (fold step opening) (take_all n ms (omega arith)) in
      let last : block (m ++ e) n ≡ e =
      ap (take 64) (drop_at m e (64 * n) lm) ∙ take_all 64 e (omega (arith, length_last)) in
      ap (tail size) (sym (ap₂ step front last))
      ∙ ap (λ (k : ℕ). tail size (through step opening k (m ++ e))) (sym count)
      ∙ ap (λ (x : List ℕ). tail size (through step opening (length (m ++ x) / 64) (m ++ x))) (sym ending_row)
      ∙ digest_whole_bytes m (small_row ms wide) step opening size

-- over a permutation that means E8 it is JH
pub jh_row : (f : List ℕ → List ℕ) → MeansE8 f → (size : ℕ) (ms : List (List ℕ)) → AllByRecursion (Bytes 64) ms
    → tail size (compress f (fold (compress f) (opening_over f size) ms) (ending_block (length ms))) ≡ jh size (bits_of (in_a_row ms))
jh_row f means size ms wide =
    digest_row (compress f) (opening_over f size) ms wide size ∙ means_jh f means size (bits_of (in_a_row ms))
