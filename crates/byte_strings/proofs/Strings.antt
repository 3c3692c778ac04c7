-- Strings of bytes: below 256 at every place.
use Rattle.std.proofs.Common.{◌≡◌, ℕ, zero, suc, ◌<◌, List, [], ◌∷◌, ◌++◌, length, get_or, take, drop, replicate, refl, ap, inl, inr, mod-lt, arith, lit<}
use Rattle.std.specs.List.{AllByRecursion}
use Rattle.std.proofs.ByRecursion.{All-get_or, All-from_get_or}
use Rattle.std.proofs.lemmas.List.{get_or_past}
use Rattle.std.proofs.lemmas.Bool.{cases_lt}
use Rattle.byte_strings.specs.Bytes.{Bytes, big_endian}

-- each place below 256, past the end too
pub everywhere : {n : ℕ} {xs : List ℕ} → Bytes n xs → (k : ℕ) → get_or xs k 0 < 256
everywhere {n} {xs} b k =
    elim (cases_lt k n) [
      | inl l ↦ b.small k l
      | inr l ↦ let e = b.len in omega (arith, get_or_past xs k 0 (omega arith))
    ]

pub bytes_from : (n : ℕ) (xs : List ℕ) → length xs ≡ n → ((k : ℕ) → get_or xs k 0 < 256) → Bytes n xs
bytes_from n xs e s = record { len = e; small = λ k h. s k }

pub all_bytes : {n : ℕ} {xs : List ℕ} → Bytes n xs → AllByRecursion (λ a. a < 256) xs
all_bytes {n} {xs} b = All-from_get_or (λ a. a < 256) xs 0 (λ k h. b.small k (let e = b.len in omega arith))

pub bytes_all : (n : ℕ) (xs : List ℕ) → length xs ≡ n → AllByRecursion (λ a. a < 256) xs → Bytes n xs
bytes_all n xs e s = record { len = e; small = λ k h. All-get_or (λ a. a < 256) xs k 0 (omega arith) s }

pub small_append : (xs ys : List ℕ) → ((k : ℕ) → get_or xs k 0 < 256) → ((k : ℕ) → get_or ys k 0 < 256) → (k : ℕ) → get_or (xs ++ ys) k 0 < 256
small_append [] ys s t k = t k
small_append (x ∷ xs) ys s t zero = s 0
small_append (x ∷ xs) ys s t (suc k) = small_append xs ys (λ j. s (suc j)) t k

pub small_take : (n : ℕ) (xs : List ℕ) → ((k : ℕ) → get_or xs k 0 < 256) → (k : ℕ) → get_or (take n xs) k 0 < 256
small_take zero xs s k = lit< tt
small_take (suc n) [] s k = s k
small_take (suc n) (x ∷ xs) s zero = s 0
small_take (suc n) (x ∷ xs) s (suc k) = small_take n xs (λ j. s (suc j)) k

pub small_drop : (n : ℕ) (xs : List ℕ) → ((k : ℕ) → get_or xs k 0 < 256) → (k : ℕ) → get_or (drop n xs) k 0 < 256
small_drop zero xs s k = s k
small_drop (suc n) [] s k = s k
small_drop (suc n) (x ∷ xs) s k = small_drop n xs (λ j. s (suc j)) k

pub small_zeros : (n k : ℕ) → get_or (replicate n 0) k 0 < 256
small_zeros zero k = lit< tt
small_zeros (suc n) zero = lit< tt
small_zeros (suc n) (suc k) = small_zeros n k

pub length_big_endian : (k n : ℕ) → length (big_endian k n) ≡ k
length_big_endian zero n = refl
length_big_endian (suc k) n = ap suc (length_big_endian k n)

pub small_big_endian : (k n j : ℕ) → get_or (big_endian k n) j 0 < 256
small_big_endian zero n j = lit< tt
small_big_endian (suc k) n zero = mod-lt _ (lit< tt)
small_big_endian (suc k) n (suc j) = small_big_endian k n j
