use Rattle.std.proofs.Common.{◌≡◌, ℕ, ◌*◌, ◌∷◌, ◌++◌, replicate, ap, ◌∙◌, div-one}
use Rattle.std.proofs.lemmas.List.{append-nil}
use Rattle.byte_strings.specs.Bytes.{big_endian}
use Rattle.jh.specs.Compression.{ending_block}
use Rattle.chaining.proofs.last_block.Goals as goal

pub returns : goal.returns
unfolding ending_block
returns c =
    let b = c.copy_from_slice.new.self in
    let e : b ≡ big_endian 16 (512 * c.from.result) = simp div-one (c.copy_from_slice.ensures.after ∙ c.to_be_bytes.ensures) in
    let f = ap (λ (n : ℕ). big_endian 16 (512 * n)) c.from.ensures in
    ap (λ t. 0x80 ∷ (replicate 47 0 ++ t)) (append-nil b ∙ e ∙ f)
