-- The bytes of a padded message, and the digest from them.
use Rattle.std.proofs.Common.{◌≡◌, ℕ, ◌+◌, ◌-◌, ◌*◌, ◌/◌, ◌<◌, ◌≤◌, Bool, true, false, List, ◌∷◌, ◌++◌, length, get_or, take, replicate, sym, ap, ◌∙◌, ap₂, arith}
use Rattle.std.proofs.lemmas.List.{append_assoc, length-append, length-replicate, length-take-le, replicate-append-replicate, take_all, get_or_past}
use Rattle.byte_strings.specs.Bytes.{big_endian}
use Rattle.byte_strings.proofs.Strings.{small_take, length_big_endian}
use Rattle.jh.specs.Bit.{low_bits}
use Rattle.jh.specs.Message.{bits_of, packed, zero_bits, padded, through, tail, digest_of}
use Rattle.jh.specs.Ending.{zero_bytes, ending, marked}
use Rattle.jh.proofs.Lengths.{length_low_bits, length_bits_of, length_padded}
use Rattle.jh.proofs.Packing.{packed_append, packed_bits_of, packed_zeros, packed_number, packed_last, front_bits}

pub length_ending : (last b : ℕ) → length (ending last b) ≡ zero_bytes b + 17
unfolding ending
length_ending last b =
    omega (arith, length-append (replicate (zero_bytes b) 0) (big_endian 16 b), length-replicate {A = ℕ} (zero_bytes b) 0, length_big_endian 16 b)

-- a message of b bits, q whole bytes and r bits
module _ (xs : List ℕ) (small : (k : ℕ) → get_or xs k 0 < 256) (b q r : ℕ) (split : b ≡ 8 * q + r) (few : r < 8) (fits : b ≤ 8 * length xs) where
  -- the whole bytes and what follows them
  abbrev in_bytes : List ℕ
  in_bytes = take q xs ++ ending (marked r (get_or xs q 0)) b

  length_message : length (take b (bits_of xs)) ≡ b
  length_message = length-take-le b (bits_of xs) (omega (arith, length_bits_of xs))

  length_front : length (take q xs) ≡ q
  length_front = length-take-le q xs (omega arith)

  zeros_split : zero_bits b ≡ (7 - r) + 8 * zero_bytes b
  zeros_split = omega arith

  -- the bits of the last byte, with the one bit
  last_bits : List Bool
  last_bits = take r (low_bits 8 (get_or xs q 0)) ++ (true ∷ replicate (7 - r) false)

  length_last : length last_bits ≡ 8
  unfolding last_bits
  length_last =
      let t = length-take-le r (low_bits 8 (get_or xs q 0)) (omega (arith, length_low_bits 8 (get_or xs q 0))) in
      omega (arith, length-append (take r (low_bits 8 (get_or xs q 0))) (true ∷ replicate (7 - r) false), length-replicate {A = Bool} (7 - r) false)

  regrouped : padded (take b (bits_of xs)) ≡ bits_of (take q xs) ++ (last_bits ++ (replicate (8 * zero_bytes b) false ++ low_bits 128 b))
  unfolding padded last_bits
  regrouped =
      let f = ap (λ (n : ℕ). take n (bits_of xs)) split ∙ front_bits q r xs few (omega arith) in
      let w = length_message in
      let z = replicate-append-replicate {A = Bool} (7 - r) (8 * zero_bytes b) false in
      let k = zeros_split in
      let m : List Bool = take b (bits_of xs) in
      let t : List Bool = take r (low_bits 8 (get_or xs q 0)) in
      let e : m ++ (true ∷ (replicate (zero_bits (length m)) false ++ low_bits 128 (length m)))
      ≡ (bits_of (take q xs) ++ t) ++ (true ∷ ((replicate (7 - r) false ++ replicate (8 * zero_bytes b) false) ++ low_bits 128 b)) = cc in
      e ∙ simp append_assoc

  -- the padded message in bytes
  packed_padded : packed (q + (1 + (zero_bytes b + 16))) (padded (take b (bits_of xs))) ≡ in_bytes
  unfolding ending last_bits
  packed_padded =
      let n = take q xs in
      let lf : length (bits_of n) ≡ 8 * q = omega (arith, length_bits_of n, length_front) in
      let a1 = packed_append q (1 + (zero_bytes b + 16)) (bits_of n) (last_bits ++ (replicate (8 * zero_bytes b) false ++ low_bits 128 b)) lf in
      let a2 = packed_append 1 (zero_bytes b + 16) last_bits (replicate (8 * zero_bytes b) false ++ low_bits 128 b) length_last in
      let a3 = packed_append (zero_bytes b) 16 (replicate (8 * zero_bytes b) false) (low_bits 128 b) (length-replicate {A = Bool} (8 * zero_bytes b) false) in
      let p1 : packed q (bits_of n) ≡ n = ap (λ (k : ℕ). packed k (bits_of n)) (sym length_front) ∙ packed_bits_of n (small_take q xs small) in
      let p2 = packed_last r (get_or xs q 0) few (small q) in
      let p3 = packed_zeros (zero_bytes b) in
      let p4 = packed_number 16 b in
      ap (packed (q + (1 + (zero_bytes b + 16)))) regrouped
      ∙ a1
      ∙ ap (λ (y : List ℕ). y ++ packed (1 + (zero_bytes b + 16)) (last_bits ++ (replicate (8 * zero_bytes b) false ++ low_bits 128 b))) p1
      ∙ ap (λ (y : List ℕ). n ++ y) (a2 ∙ ap (λ (y : List ℕ). y ++ packed (zero_bytes b + 16) (replicate (8 * zero_bytes b) false ++ low_bits 128 b)) p2)
      ∙ ap (λ (y : List ℕ). n ++ (marked r (get_or xs q 0) ∷ y)) (a3 ∙ ap (λ (y : List ℕ). y ++ packed 16 (low_bits 128 b)) p3 ∙ ap (λ (y : List ℕ). replicate (zero_bytes b) 0 ++ y) p4)

  length_in_bytes : length in_bytes ≡ q + (1 + (zero_bytes b + 16))
  length_in_bytes = omega (arith, length-append (take q xs) (ending (marked r (get_or xs q 0)) b), length_front, length_ending (marked r (get_or xs q 0)) b)

  -- the digest of the first b bits, from bytes alone
  pub digest_from_bytes : (step : List ℕ → List ℕ → List ℕ) (opening : List ℕ) (size : ℕ)
      → tail size (through step opening (length in_bytes / 64) in_bytes) ≡ digest_of step opening size (take b (bits_of xs))
  unfolding digest_of
  digest_from_bytes step opening size =
      let l = length_padded (take b (bits_of xs)) in
      let w = length_message in
      let z = zeros_split in
      let y : zero_bits (length (take b (bits_of xs))) ≡ zero_bits b = ap zero_bits length_message in
      let le = length_in_bytes in
      let n8 : length (padded (take b (bits_of xs))) / 8 ≡ q + (1 + (zero_bytes b + 16)) = omega arith in
      let n64 : length (padded (take b (bits_of xs))) / 512 ≡ length in_bytes / 64 = omega arith in
      let p : packed (length (padded (take b (bits_of xs))) / 8) (padded (take b (bits_of xs))) ≡ in_bytes
      = ap (λ (k : ℕ). packed k (padded (take b (bits_of xs)))) n8 ∙ packed_padded in
      ap₂ (λ (k : ℕ) (ys : List ℕ). tail size (through step opening k ys)) (sym n64) (sym p)

-- the same of a message of whole bytes
pub digest_whole_bytes : (m : List ℕ) → ((k : ℕ) → get_or m k 0 < 256) → (step : List ℕ → List ℕ → List ℕ) (opening : List ℕ) (size : ℕ)
    → tail size (through step opening (length (m ++ ending 128 (8 * length m)) / 64) (m ++ ending 128 (8 * length m))) ≡ digest_of step opening size (bits_of m)
digest_whole_bytes m small step opening size =
    let n = length m in
    let x : marked 0 (get_or m n 0) ≡ 128 = ap (marked 0) (get_or_past m n 0 (omega arith)) in
    let f : take n m ≡ m = take_all n m (omega arith) in
    let t : take (8 * n) (bits_of m) ≡ bits_of m = take_all (8 * n) (bits_of m) (omega (arith, length_bits_of m)) in
    let g : m ++ ending 128 (8 * n) ≡ take n m ++ ending (marked 0 (get_or m n 0)) (8 * n) = ap₂ (λ (ys : List ℕ) (l : ℕ). ys ++ ending l (8 * n)) (sym f) (sym x) in
    ap (λ (ys : List ℕ). tail size (through step opening (length ys / 64) ys)) g
    ∙ digest_from_bytes m small (8 * n) n 0 (omega arith) (omega arith) (omega arith) step opening size
    ∙ ap (digest_of step opening size) t
