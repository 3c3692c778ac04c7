use Rattle.std.proofs.Common.{◌≡◌, ℕ, ◌+◌, ◌*◌, List, ap, ◌∙◌, arith}
use Rattle.jh.specs.Permutation.{byte_bit}
use Rattle.slicing.proofs.Halves.{halves_are}
use Rattle.words.proofs.eight.read_word.Goals as goal

pub returns : goal.returns
returns c i g =
    let x : List ℕ = c.args.bytes.now in
    let k : ℕ = c.args.k in
    c.new.ensures i
    ∙ halves_are (λ i. byte_bit x (128 * k + i)) c.read_half.result c.read_half-2.result
    (λ j h. let e : 8 * (16 * k) + j ≡ 128 * k + j = omega arith in c.read_half.ensures j h ∙ ap (byte_bit x) e)
    (λ j h. let e : 8 * (16 * k + 8) + j ≡ 128 * k + (64 + j) = omega arith in c.read_half-2.ensures j h ∙ ap (byte_bit x) e) i g
