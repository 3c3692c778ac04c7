use Rattle.std.proofs.Common.{◌≡◌, ℕ, true, List, get_or, take, drop, ap, ◌∙◌, arith, rules}
use Rattle.std.specs.Int.{w32, w64, from_be_bytes}
use Rattle.std.proofs.lemmas.List.{take_all, length-drop}
use Rattle.byte_strings.specs.Bytes.{Bytes}
use Rattle.passages.specs.Fields.{tag_of, zeroed}
use Rattle.passages.specs.Coding.{encoded, decoded}
use Rattle.passages.specs.declared.passage.Passage.{Passage}
use Rattle.passages.proofs.Encodings.{encoding, word_read, time_read, class_read, version_read, same_fields}
use Rattle.passages.proofs.coding.PassageFromRefBlock.from.Goals as goal

again : (p : Passage) (m : List ℕ) → Bytes 64 m → p ≡ decoded m → zeroed m ≡ true → encoded p ≡ m
again p m b e z = ap encoded e ∙ encoding m b z

pub returns : goal.returns
returns c =
    let m = c.args.block.now in
    let b : Bytes 64 m = search rules in
    let n = length-drop 32 m in
    let t : take 32 (drop 32 m) ≡ tag_of m = take_all 32 (drop 32 m) (let l = b.len in omega arith) in
    let four = λ (x : List ℕ). from_be_bytes w32 x in
    let e = same_fields _ (decoded m)
    (c.from_be_bytes.ensures ∙ ap four c.part-2.ensures ∙ word_read m 0)
    (c.from_be_bytes-2.ensures ∙ ap four c.part-3.ensures ∙ word_read m 4)
    (c.from_be_bytes-3.ensures ∙ ap (λ (x : List ℕ). from_be_bytes w64 x) c.part-4.ensures ∙ time_read m)
    (ap (λ (x : List ℕ). get_or x 0 0) c.part.ensures ∙ class_read m)
    (ap (λ (x : List ℕ). get_or x 1 0) c.part.ensures ∙ version_read m)
    (c.from_be_bytes-4.ensures ∙ ap four c.part-5.ensures ∙ word_read m 20)
    (c.from_be_bytes-5.ensures ∙ ap four c.part-6.ensures ∙ word_read m 24)
    (c.from_be_bytes-6.ensures ∙ ap four c.part-7.ensures ∙ word_read m 28)
    (c.part-8.ensures ∙ t) in
    record { fields = e; bytes = again _ m b e }
