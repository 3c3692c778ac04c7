-- A list in which the elements from place i on have moved down by one.
use Rattle.std.proofs.Common.{◌≡◌, ℕ, suc, ◌+◌, ◌-◌, ◌<◌, ◌≤◌, List, [], ◌∷◌, ◌++◌, map, length, get_or, take, drop, sym, ap, ◌∙◌, arith}
use borrow.Rule.Slice.PartMut.{put_mid, mid_of}
use Rattle.std.specs.List.{remove}
use Rattle.std.proofs.lemmas.List.{length-append, length-take, length-drop, length-take-le, take-take, take_at, take-map, drop-map, drop-take, map-append}
use Rattle.std.proofs.lemmas.List.Edits.{length-remove}
use Rattle.std.proofs.lemmas.Slice.{put_mid-rotated, take-put_mid}

module _ {X : Type 0} (xs ys : List X) (i n : ℕ) (d : X) where
  -- the part from place i to place n was rotated by one, and the last place of it is let go
  pub rotated : i < n → n ≤ length xs → ys ≡ drop 1 (mid_of i (n - i) xs) ++ take 1 (mid_of i (n - i) xs) → take (n - 1) (put_mid i (n - i) xs ys) ≡ remove (take n xs) i
  rotated l le e =
      let held = take n xs in
      let k = n - i in
      let ends : n ≡ i + k = omega arith in
      let part : drop i held ≡ mid_of i k xs = ap (λ m. drop i (take m xs)) ends ∙ drop-take i k xs in
      let same : mid_of i k held ≡ mid_of i k xs = ap (take k) part ∙ take-take k k (drop i xs) (omega arith) in
      let long : length held ≡ n = length-take-le n xs le in
      let short = length-remove held i (omega arith) in
      let y = get_or held i d in
      let whole : put_mid i k held ys ≡ remove held i ++ y ∷ [] = put_mid-rotated i k held ys d (omega arith) (omega arith) (e ∙ ap (λ m. drop 1 m ++ take 1 m) (sym same)) in
      let len : length ys ≡ k = ap length e ∙ simp (length-append, length-drop, length-take) (omega arith) in
      sym (take-take (n - 1) n (put_mid i k xs ys) (omega arith))
      ∙ ap (take (n - 1)) (take-put_mid i k xs ys n (omega arith) (omega arith) ∙ ap (λ m. m ++ ys) (sym (take-take i n xs (omega arith))) ∙ sym (take-put_mid i k held ys n (omega arith) (omega arith)) ∙ ap (take n) whole)
      ∙ take-take (n - 1) n (remove held i ++ y ∷ []) (omega arith)
      ∙ take_at (remove held i) (y ∷ []) (n - 1) (omega arith)

pub map_removed : {X Y : Type 0} (f : X → Y) (xs : List X) (i : ℕ) → map f (remove xs i) ≡ remove (map f xs) i
map_removed f xs i = map-append f (take i xs) (drop (suc i) xs) ∙ (let a = take-map f i xs in let b = drop-map f (suc i) xs in cc)
