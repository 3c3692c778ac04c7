use Rattle.std.proofs.Common.{◌≡◌, ℕ, ◌-◌, List, [], ◌∷◌, ◌++◌, length, replicate, refl, ◌∙◌, ap₂, rules}
use Rattle.byte_strings.specs.Bytes.{big_endian}
use Rattle.passages.specs.Coding.{put_at}
use Rattle.passages.proofs.Encodings.{put_next, four, eight, joined_parts}
use Rattle.passages.proofs.coding.BlockFromRefPassage.from.Goals as goal

-- a block of zeros behind the first parts, and one part more
more : (old new xs part part' : List ℕ) (n i k : ℕ) → old ≡ xs ++ replicate n 0 → length xs ≡ i → new ≡ put_at i part old → part ≡ part' → length part' ≡ k
    → new ≡ (xs ++ part') ++ replicate (n - k) 0
more old new xs part part' n i k e l f p q =
    f ∙ ap₂ (λ (a b : List ℕ). put_at i a b) p e ∙ put_next xs part' n i k l q

pub returns : goal.returns
returns c =
    let p = c.args.passage.now in
    let x1 = big_endian 4 p.gate in
    let x2 = x1 ++ big_endian 4 p.serial in
    let x3 = x2 ++ big_endian 8 p.time in
    let x4 = x3 ++ (p.class ∷ (p.version ∷ (0 ∷ (0 ∷ [])))) in
    let x5 = x4 ++ big_endian 4 p.full_price in
    let x6 = x5 ++ big_endian 4 p.discount in
    let x7 = x6 ++ big_endian 4 p.charged in
    let b1 = more (replicate 64 0) c.put.new.block [] c.to_be_bytes.result (big_endian 4 p.gate) 64 0 4 refl refl c.put.ensures (c.to_be_bytes.ensures ∙ four p.gate) refl in
    let b2 = more c.put.new.block c.put-2.new.block x1 c.to_be_bytes-2.result (big_endian 4 p.serial) 60 4 4 b1 refl c.put-2.ensures (c.to_be_bytes-2.ensures ∙ four p.serial) refl in
    let b3 = more c.put-2.new.block c.put-3.new.block x2 c.to_be_bytes-3.result (big_endian 8 p.time) 56 8 8 b2 refl c.put-3.ensures (c.to_be_bytes-3.ensures ∙ eight p.time) refl in
    let b4 = more c.put-3.new.block c.put-4.new.block x3 (p.class ∷ (p.version ∷ (0 ∷ (0 ∷ [])))) (p.class ∷ (p.version ∷ (0 ∷ (0 ∷ [])))) 48 16 4 b3 refl c.put-4.ensures refl refl in
    let b5 = more c.put-4.new.block c.put-5.new.block x4 c.to_be_bytes-4.result (big_endian 4 p.full_price) 44 20 4 b4 refl c.put-5.ensures (c.to_be_bytes-4.ensures ∙ four p.full_price) refl in
    let b6 = more c.put-5.new.block c.put-6.new.block x5 c.to_be_bytes-5.result (big_endian 4 p.discount) 40 24 4 b5 refl c.put-6.ensures (c.to_be_bytes-5.ensures ∙ four p.discount) refl in
    let b7 = more c.put-6.new.block c.put-7.new.block x6 c.to_be_bytes-6.result (big_endian 4 p.charged) 36 28 4 b6 refl c.put-7.ensures (c.to_be_bytes-6.ensures ∙ four p.charged) refl in
    let b8 = more c.put-7.new.block c.put-8.new.block x7 p.tag p.tag 32 32 32 b7 refl c.put-8.ensures refl (search rules) in
    b8 ∙ joined_parts p
