-- Encoding, decoding, and the fields of what was encoded.
use Rattle.std.proofs.Common.{◌≡◌, ℕ, ◌+◌, ◌-◌, ◌*◌, ◌/◌, ◌%◌, ◌^◌, ◌<◌, ◌≤◌, true, eqb, List, [], ◌∷◌, ◌++◌, length, get_or, take, drop, replicate, refl, sym, ap, ◌∙◌, ap₂, div-one, arith}
use Rattle.std.proofs.lemmas.List.{append_assoc, append-nil, take_at, drop_at, drop-drop, drop-replicate, length-drop, get_or-take, get_or-drop, drop_more}
use Rattle.std.proofs.lemmas.Bool.{and_parts, eqb-true}
use Rattle.std.specs.Int.{w32, w64, from_be_bytes}
use Rattle.std.proofs.lemmas.Nat.{from_be_bytes-to_be_bytes_4, from_be_bytes-to_be_bytes_8}
use Rattle.byte_strings.specs.Bytes.{Bytes, big_endian}
use Rattle.byte_strings.proofs.Strings.{everywhere, small_drop}
use Rattle.passages.specs.Fields.{word, serial_of, time_of, class_of, version_of, charged_of, zeroed}
use Rattle.passages.specs.Coding.{put_at, encoded, decoded}
use Rattle.passages.specs.Laws.{Fits}
use Rattle.passages.specs.declared.passage.Passage.{Passage}

-- one part more over zeros
pub put_next : (xs ys : List ℕ) (n i k : ℕ) → length xs ≡ i → length ys ≡ k → put_at i ys (xs ++ replicate n 0) ≡ (xs ++ ys) ++ replicate (n - k) 0
put_next xs ys n i k e f =
    ap₂ (λ (a b : List ℕ). a ++ (ys ++ b)) (take_at xs (replicate n 0) i e)
    (ap (λ (j : ℕ). drop (i + j) (xs ++ replicate n 0)) f ∙ sym (drop-drop k i (xs ++ replicate n 0)) ∙ ap (drop k) (drop_at xs (replicate n 0) i e) ∙ drop-replicate k n 0)
    ∙ sym (append_assoc xs ys (replicate (n - k) 0))

pub four : (n : ℕ) → n / 16777216 % 256 ∷ (n / 65536 % 256 ∷ (n / 256 % 256 ∷ (n % 256 ∷ []))) ≡ big_endian 4 n
four n = ap (λ (x : ℕ). n / 16777216 % 256 ∷ (n / 65536 % 256 ∷ (n / 256 % 256 ∷ (x % 256 ∷ [])))) (sym (div-one n))

pub eight : (n : ℕ)
    → n / 72057594037927936 % 256 ∷ (n / 281474976710656 % 256 ∷ (n / 1099511627776 % 256 ∷ (n / 4294967296 % 256
    ∷ (n / 16777216 % 256 ∷ (n / 65536 % 256 ∷ (n / 256 % 256 ∷ (n % 256 ∷ []))))))) ≡ big_endian 8 n
eight n =
    ap (λ (x : List ℕ). n / 72057594037927936 % 256 ∷ (n / 281474976710656 % 256 ∷ (n / 1099511627776 % 256 ∷ (n / 4294967296 % 256 ∷ x)))) (four n)

read : (m : List ℕ) (n i k j : ℕ) → k < n → i + k ≡ j → get_or (take n (drop i m)) k 0 ≡ get_or m j 0
read m n i k j h e = get_or-take n (drop i m) k 0 h ∙ get_or-drop i m k 0 ∙ ap (λ (x : ℕ). get_or m x 0) e

-- the number in the four bytes from place i on
pub word_read : (m : List ℕ) (i : ℕ) → from_be_bytes w32 (take 4 (drop i m)) ≡ word m i
word_read m i =
    let r = read m 4 i in
    rw (r 0 i (omega arith) (omega arith), r 1 (i + 1) (omega arith) refl, r 2 (i + 2) (omega arith) refl, r 3 (i + 3) (omega arith) refl) (omega arith)

pub time_read : (m : List ℕ) → from_be_bytes w64 (take 8 (drop 8 m)) ≡ time_of m
time_read m =
    let r = read m 8 8 in
    rw (r 0 8 (omega arith) refl, r 1 9 (omega arith) refl, r 2 10 (omega arith) refl, r 3 11 (omega arith) refl)
    (rw (r 4 12 (omega arith) refl, r 5 13 (omega arith) refl, r 6 14 (omega arith) refl, r 7 15 (omega arith) refl) (omega arith))

pub class_read : (m : List ℕ) → get_or (take 4 (drop 16 m)) 0 0 ≡ class_of m
class_read m = read m 4 16 0 16 (omega arith) refl

pub version_read : (m : List ℕ) → get_or (take 4 (drop 16 m)) 1 0 ≡ version_of m
version_read m = read m 4 16 1 17 (omega arith) refl

-- the passage with these fields
abbrev made : (gate serial time class version full discount charged : ℕ) (tag : List ℕ) → Passage
made gate serial time class version full discount charged tag =
    record {
      gate = gate;
      serial = serial;
      time = time;
      class = class;
      version = version;
      full_price = full;
      discount = discount;
      charged = charged;
      tag = tag;
    }

-- a passage is its fields
pub same_fields : (p q : Passage) → p.gate ≡ q.gate → p.serial ≡ q.serial → p.time ≡ q.time → p.class ≡ q.class → p.version ≡ q.version
    → p.full_price ≡ q.full_price → p.discount ≡ q.discount → p.charged ≡ q.charged → p.tag ≡ q.tag → p ≡ q
same_fields p q a b c d e f g h i =
    let same : made p.gate p.serial p.time p.class p.version p.full_price p.discount p.charged p.tag
    ≡ made q.gate q.serial q.time q.class q.version q.full_price q.discount q.charged q.tag = cc in
    same

-- four bytes spell a number, and the number gives them again
digits : (a b c d : ℕ) → a < 256 → b < 256 → c < 256 → d < 256
    → big_endian 4 (a * 16777216 + b * 65536 + c * 256 + d) ≡ a ∷ (b ∷ (c ∷ (d ∷ [])))
digits a b c d ha hb hc hd =
    let n : ℕ = a * 16777216 + b * 65536 + c * 256 + d in
    let ea : n / 16777216 % 256 ≡ a = omega arith in
    let eb : n / 65536 % 256 ≡ b = omega arith in
    let ec : n / 256 % 256 ≡ c = omega arith in
    let ed : n / 1 % 256 ≡ d = omega arith in
    cc

-- a number below 2^32 is spelled by its four bytes
pub spelled : (n : ℕ) → n < 2 ^ 32 → n / 16777216 % 256 * 16777216 + n / 65536 % 256 * 65536 + n / 256 % 256 * 256 + n / 1 % 256 ≡ n
spelled n h = rw (div-one n) (from_be_bytes-to_be_bytes_4 n h)

-- eight bytes are four and four
halves : (h l : ℕ) → l < 2 ^ 32 → big_endian 8 (h * 4294967296 + l) ≡ big_endian 4 h ++ big_endian 4 l
halves h l s =
    let n : ℕ = h * 4294967296 + l in
    let e1 : n / 72057594037927936 % 256 ≡ h / 16777216 % 256 = omega arith in
    let e2 : n / 281474976710656 % 256 ≡ h / 65536 % 256 = omega arith in
    let e3 : n / 1099511627776 % 256 ≡ h / 256 % 256 = omega arith in
    let e4 : n / 4294967296 % 256 ≡ h / 1 % 256 = omega arith in
    let e5 : n / 16777216 % 256 ≡ l / 16777216 % 256 = omega arith in
    let e6 : n / 65536 % 256 ≡ l / 65536 % 256 = omega arith in
    let e7 : n / 256 % 256 ≡ l / 256 % 256 = omega arith in
    let e8 : n / 1 % 256 ≡ l / 1 % 256 = omega arith in
    cc

-- the parts, put one behind the other
pub joined_parts : (p : Passage)
    → (((((((big_endian 4 p.gate ++ big_endian 4 p.serial) ++ big_endian 8 p.time) ++ (p.class ∷ (p.version ∷ (0 ∷ (0 ∷ [])))))
    ++ big_endian 4 p.full_price) ++ big_endian 4 p.discount) ++ big_endian 4 p.charged) ++ p.tag) ++ [] ≡ encoded p
unfolding encoded
joined_parts p = append-nil _

-- the fields of what was encoded
pub serial_encoded : (p : Passage) → p.serial < 2 ^ 32 → serial_of (encoded p) ≡ p.serial
unfolding encoded
serial_encoded p h = spelled p.serial h

pub charged_encoded : (p : Passage) → p.charged < 2 ^ 32 → charged_of (encoded p) ≡ p.charged
unfolding encoded
charged_encoded p h = spelled p.charged h

-- four bytes give no more
pub charged_most : (p : Passage) → charged_of (encoded p) ≤ 4294967295
unfolding encoded
charged_most p = omega arith

time_spelled : (n : ℕ) → n < 2 ^ 64
    → (n / 72057594037927936 % 256 * 16777216 + n / 281474976710656 % 256 * 65536 + n / 1099511627776 % 256 * 256 + n / 4294967296 % 256) * 4294967296
    + (n / 16777216 % 256 * 16777216 + n / 65536 % 256 * 65536 + n / 256 % 256 * 256 + n / 1 % 256) ≡ n
time_spelled n h = rw (div-one n) (let e = from_be_bytes-to_be_bytes_8 n h in omega (arith, e))

pub decoding : (p : Passage) → Fits p → decoded (encoded p) ≡ p
unfolding encoded
decoding p f =
    same_fields _ p (spelled p.gate f.gate) (spelled p.serial f.serial) (time_spelled p.time f.time) refl refl
    (spelled p.full_price f.full_price) (spelled p.discount f.discount) (spelled p.charged f.charged) refl

-- the first four bytes of a string, by their number
split : (xs : List ℕ) → 4 ≤ length xs → ((k : ℕ) → get_or xs k 0 < 256) → xs ≡ big_endian 4 (word xs 0) ++ drop 4 xs
split [] l s = absurd (omega arith)
split (a ∷ []) l s = absurd (omega arith)
split (a ∷ (b ∷ [])) l s = absurd (omega arith)
split (a ∷ (b ∷ (c ∷ []))) l s = absurd (omega arith)
split (a ∷ (b ∷ (c ∷ (d ∷ xs)))) l s = ap (λ (ys : List ℕ). ys ++ xs) (sym (digits a b c d (s 0) (s 1) (s 2) (s 3)))

word_drop : (m : List ℕ) (i : ℕ) → word (drop i m) 0 ≡ word m i
word_drop m i =
    let z : i + 0 ≡ i = omega arith in
    let e0 = get_or-drop i m 0 0 ∙ ap (λ (j : ℕ). get_or m j 0) z in
    let e1 = get_or-drop i m 1 0 in
    let e2 = get_or-drop i m 2 0 in
    let e3 = get_or-drop i m 3 0 in
    cc

module _ (m : List ℕ) (b : Bytes 64 m) where
  -- the four bytes from place i on
  part : (i : ℕ) → i + 4 ≤ 64 → drop i m ≡ big_endian 4 (word m i) ++ drop (i + 4) m
  part i h =
      let n = length-drop i m in
      let w = b.len in
      split (drop i m) (omega arith) (small_drop i m (everywhere b))
      ∙ ap₂ (λ (n : ℕ) (ys : List ℕ). big_endian 4 n ++ ys) (word_drop m i) (drop-drop 4 i m)

  word_small : (i : ℕ) → word m i < 2 ^ 32
  word_small i =
      let s = everywhere b in
      let s0 = s i in
      let s1 = s (i + 1) in
      let s2 = s (i + 2) in
      let s3 = s (i + 3) in
      omega arith

  middle : zeroed m ≡ true → drop 16 m ≡ (get_or m 16 0 ∷ (get_or m 17 0 ∷ (0 ∷ (0 ∷ [])))) ++ drop 20 m
  middle z =
      let w = b.len in
      let p = and_parts (eqb (get_or m 18 0) 0) (eqb (get_or m 19 0) 0) z in
      let e18 = eqb-true (get_or m 18 0) 0 p.0 in
      let e19 = eqb-true (get_or m 19 0) 0 p.1 in
      drop_more m 16 0 (omega arith)
      ∙ ap (λ (ys : List ℕ). get_or m 16 0 ∷ ys) (drop_more m 17 0 (omega arith))
      ∙ ap (λ (ys : List ℕ). get_or m 16 0 ∷ (get_or m 17 0 ∷ ys)) (drop_more m 18 0 (omega arith))
      ∙ ap (λ (ys : List ℕ). get_or m 16 0 ∷ (get_or m 17 0 ∷ (get_or m 18 0 ∷ ys))) (drop_more m 19 0 (omega arith))
      ∙ ap₂ (λ (x y : ℕ). get_or m 16 0 ∷ (get_or m 17 0 ∷ (x ∷ (y ∷ drop 20 m)))) e18 e19

  pub encoding : zeroed m ≡ true → encoded (decoded m) ≡ m
  unfolding encoded
  encoding z =
      let be = λ (n : ℕ). big_endian 4 n in
      let g = be (word m 0) in
      let s = be (word m 4) in
      let t : big_endian 8 (time_of m) ≡ be (word m 8) ++ be (word m 12) = halves (word m 8) (word m 12) (word_small 12) in
      let c = get_or m 16 0 ∷ (get_or m 17 0 ∷ (0 ∷ (0 ∷ []))) in
      let prices = be (word m 20) ++ (be (word m 24) ++ (be (word m 28) ++ drop 32 m)) in
      let low : drop 20 m ≡ prices = part 20 (omega arith) ∙ ap (λ (ys : List ℕ). be (word m 20) ++ ys) (part 24 (omega arith) ∙ ap (λ (ys : List ℕ). be (word m 24) ++ ys) (part 28 (omega arith))) in
      ap (λ (ys : List ℕ). g ++ (s ++ (ys ++ (c ++ prices)))) t
      ∙ ap (λ (ys : List ℕ). g ++ (s ++ ys)) (append_assoc (be (word m 8)) (be (word m 12)) (c ++ prices))
      ∙ sym (part 0 (omega arith) ∙ ap (λ (ys : List ℕ). g ++ ys) (part 4 (omega arith) ∙ ap (λ (ys : List ℕ). s ++ ys)
      (part 8 (omega arith) ∙ ap (λ (ys : List ℕ). be (word m 8) ++ ys) (part 12 (omega arith) ∙ ap (λ (ys : List ℕ). be (word m 12) ++ ys)
      (middle z ∙ ap (λ (ys : List ℕ). c ++ ys) low)))))
