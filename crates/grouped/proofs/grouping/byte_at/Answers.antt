use Rattle.std.proofs.Common.{◌≡◌, ℕ, ◌+◌, ◌*◌, ◌∙◌, ap₂, arith}
use Rattle.jh.specs.Bit.{element}
use Rattle.jh.specs.Permutation.{grouped_bit}
use Rattle.grouped.proofs.grouping.byte_at.Goals as goal

pub returns : goal.returns
returns c =
    let bit = grouped_bit c.args.elements.now in
    let j : ℕ = 8 * c.args.b in
    let p : j + 4 + 1 ≡ j + 5 = omega arith in
    let q : j + 4 + 2 ≡ j + 6 = omega arith in
    let r : j + 4 + 3 ≡ j + 7 = omega arith in
    ap₂ (λ (high low : ℕ). 16 * high + low) c.four_bits.ensures.value
    (c.four_bits-2.ensures.value ∙ (λ i. element (bit (j + 4)) (bit (p i)) (bit (q i)) (bit (r i))))
