-- Texts that are written one after another and cut off at n bytes.
use Rattle.std.proofs.Common.{◌≡◌, ℕ, zero, suc, ◌+◌, ◌-◌, ◌*◌, ◌/◌, ◌%◌, ◌<◌, ◌≤◌, min, List, [], ◌∷◌, ◌++◌, length, get_or, take, drop, sym, refl, ap, ◌∙◌, ⊎_elim, append_assoc, append-nil, arith, length-append}
use native.Mathlib.Nat.{min-eq_left, min-eq_right}
use borrow.Rule.Slice.PartMut.{put_mid}
use Rattle.std.specs.Prelude.{replicate}
use Rattle.std.proofs.lemmas.Slice.{take-put_mid, drop-put_mid}
use Rattle.std.proofs.lemmas.List.{drop-drop, drop-replicate, length-drop, take_all, length-take-le, take_more}
use Rattle.std.proofs.lemmas.Bool.{cases_lt}
use Rattle.std.proofs.Math.Seq.{take-append-add}
use Rattle.fields.specs.Hex.{hex_of, hex_digit}

-- as much of t as there is room for
pub cut_off : (n k : ℕ) (u t : List ℕ) → length u ≤ n → k ≡ min (length t) (n - length u) → u ++ take k t ≡ take n (u ++ t)
cut_off n k u t h e =
    ⊎_elim
    (λ (l : length t < n - length u).
    let m = e ∙ min-eq_left {n = length t} {m = n - length u} (omega (arith, l)) in
    let a = length-append u t in
    ap (λ v. u ++ v) (take_all k t (omega (arith, m))) ∙ sym (take_all n (u ++ t) (omega (arith, a, l))))
    (λ (l : n - length u ≤ length t).
    let m = e ∙ min-eq_right {n = n - length u} {m = length t} l in
    let s : length u + k ≡ n = omega (arith, m, h) in
    sym (take-append-add u t k) ∙ ap (λ j. take j (u ++ t)) s)
    (cases_lt (length t) (n - length u))

-- a write of t at the end of the first k of n bytes, as far as it has room
module _ (n k m : ℕ) (b t c : List ℕ) (wide : length b ≡ n) (within : k ≤ n) (room : m ≡ min (length t) (n - k)) (part : c ≡ take m t) where
  fits : (k + m ≤ n) × (m ≤ length t)
  fits = (omega (arith, within, room), omega (arith, within, room))

  long : length c ≡ m
  long = ap length part ∙ length-take-le m t fits.1

  pub put_at_end : take (k + m) (put_mid k (k + m - k) b c) ≡ take n (take k b ++ t)
  put_at_end =
      let front = length-take-le k b (omega (arith, wide, within)) in
      take-put_mid k (k + m - k) b c (k + m) (omega (arith, long)) (omega (arith, wide, within))
      ∙ ap (λ u. take k b ++ u) part
      ∙ cut_off n m (take k b) t (omega (arith, front, within)) (room ∙ ap (λ x. min (length t) (n - x)) (sym front))

  -- the zeros behind it
  pub still_padded : drop k b ≡ replicate (n - k) 0 → (length (put_mid k (k + m - k) b c) ≡ n) × (k + m ≤ n) × (drop (k + m) (put_mid k (k + m - k) b c) ≡ replicate (n - (k + m)) 0)
  still_padded zeros =
      let front = length-take-le k b (omega (arith, wide, within)) in
      let behind = drop-put_mid k (k + m - k) b c (k + m) (omega arith) (omega (arith, wide, within)) (omega (arith, long)) in
      let left : n - k - m ≡ n - (k + m) = omega arith in (
        simp (length-append, length-drop) (omega (arith, front, long, wide, fits)),
        fits.0,
        rw (behind, ← drop-drop, zeros, drop-replicate, left),
      )

take_again : (n : ℕ) (u t : List ℕ) → take n (take n u ++ t) ≡ take n (u ++ t)
take_again zero u t = refl
take_again (suc n) [] t = refl
take_again (suc n) (x ∷ u) t = ap (λ v. x ∷ v) (take_again n u t)

-- two parts, one after the other
pub then_part : (n : ℕ) (w x y a b : List ℕ) → x ≡ take n (w ++ a) → y ≡ take n (x ++ b) → y ≡ take n (w ++ (a ++ b))
then_part n w x y a b e f = f ∙ ap (λ u. take n (u ++ b)) e ∙ take_again n (w ++ a) b ∙ ap (take n) (append_assoc w a b)

-- a text of at most n bytes is not cut off
pub whole : (n : ℕ) (w : List ℕ) → length w ≤ n → w ≡ take n (w ++ [])
whole n w h = sym (ap (take n) (append-nil w) ∙ take_all n w h)

hex_append : (xs ys : List ℕ) → hex_of (xs ++ ys) ≡ hex_of xs ++ hex_of ys
hex_append [] ys = refl
hex_append (x ∷ xs) ys = ap (λ t. hex_digit (x / 16) ∷ (hex_digit (x % 16) ∷ t)) (hex_append xs ys)

-- the digits of one byte more
pub hex_more : (xs : List ℕ) (i : ℕ) → i < length xs → hex_of (take (i + 1) xs) ≡ hex_of (take i xs) ++ hex_of (get_or xs i 0 ∷ [])
hex_more xs i h = ap hex_of (take_more xs i 0 h) ∙ hex_append (take i xs) (get_or xs i 0 ∷ [])

pub length_hex : (xs : List ℕ) → length (hex_of xs) ≡ 2 * length xs
length_hex [] = refl
length_hex (x ∷ xs) = let h = length_hex xs in omega (arith, h)

-- the whole of two parts, where both fit
pub two_parts : (n : ℕ) (w x y a b : List ℕ) → w ≡ [] → x ≡ take n (w ++ a) → y ≡ take n (x ++ b) → length a + length b ≤ n → y ≡ a ++ b
two_parts n w x y a b e f g h =
    let l = length-append a b in
    then_part n w x y a b f g ∙ ap (λ v. take n (v ++ (a ++ b))) e ∙ take_all n (a ++ b) (omega (arith, l, h))
