use mathlib.Core.Path.{◌≡◌, ◌∙◌}
use Rattle.words.specs.Bits.{word_bit}
use Rattle.sliced.specs.Slices.{element_at}
use Rattle.sliced.proofs.Circuits.{of_element, substituted, substituted_right}
use Rattle.sliced.proofs.slices.Slices.substitute.Goals as goal

-- bit i of each line of the code is that line on bits
pub returns : goal.returns
returns c i =
    let lines : element_at (c.bitxor-y0.result, c.bitxor-y1.result, c.bitxor-y2.result, c.bitxor-y3.result) i ≡ of_element substituted c.args.self i (word_bit c.args.c i) =
    cc (
      c.not-n3.ensures i,
      c.not.ensures i,
      c.bitand.ensures i,
      c.bitxor-p0.ensures i,
      c.bitand-2.ensures i,
      c.bitxor-t.ensures i,
      c.bitand-3.ensures i,
      c.bitxor-q0.ensures i,
      c.not-2.ensures i,
      c.bitand-4.ensures i,
      c.bitxor-q3.ensures i,
      c.bitand-5.ensures i,
      c.bitxor-q1.ensures i,
      c.not-3.ensures i,
      c.bitand-6.ensures i,
      c.bitxor-q2.ensures i,
      c.bitor.ensures i,
      c.bitxor-y0.ensures i,
      c.bitand-7.ensures i,
      c.bitxor-y3.ensures i,
      c.bitand-8.ensures i,
      c.bitxor-y1.ensures i,
      c.bitxor-y2.ensures i,
    ) in
    lines ∙ substituted_right c.args.self i (word_bit c.args.c i)
