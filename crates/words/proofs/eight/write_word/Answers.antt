use Rattle.std.proofs.Common.{◌≡◌, ℕ, ◌+◌, ◌*◌, List, sym, ap, ◌∙◌, arith}
use Rattle.jh.specs.Permutation.{byte_bit}
use Rattle.slicing.proofs.Halves.{halves_are}
use Rattle.words.proofs.eight.write_word.Goals as goal

pub returns : goal.returns
returns c =
    let k : ℕ = c.args.k in
    let y : List ℕ = c.write_half.new.bytes in
    let z : List ℕ = c.write_half-2.new.bytes in
    let one = c.write_half.ensures in
    let two = c.write_half-2.ensures in
    record {
      here = λ i g.
          c.halves-high.ensures i
          ∙ halves_are (λ i. byte_bit z (128 * k + i)) c.halves-high.result.0 c.halves-high.result.1
          (λ j h.
          let e : 8 * (16 * k) + j ≡ 128 * k + j = omega arith in
          one.here j h ∙ ap (byte_bit y) e ∙ sym (two.below (128 * k + j) (omega arith)))
          (λ j h.
          let e : 8 * (16 * k + 8) + j ≡ 128 * k + (64 + j) = omega arith in
          two.here j h ∙ ap (byte_bit z) e) i g;
      below = λ j h. two.below j (omega arith) ∙ one.below j (omega arith);
      bytes = two.bytes;
    }
