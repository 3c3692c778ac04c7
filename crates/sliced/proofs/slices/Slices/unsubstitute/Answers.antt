use mathlib.Core.Path.{◌≡◌, ◌∙◌}
use Rattle.words.specs.Bits.{word_bit}
use Rattle.sliced.specs.Slices.{element_at}
use Rattle.sliced.proofs.Circuits.{of_element, unsubstituted, unsubstituted_right}
use Rattle.sliced.proofs.slices.Slices.unsubstitute.Goals as goal

-- bit i of each line of the code is that line on bits
pub returns : goal.returns
returns c i =
    let lines : element_at (c.bitxor-x0.result, c.bitxor-x1.result, c.bitxor-x2.result, c.bitxor-x3.result) i ≡ of_element unsubstituted c.args.self i (word_bit c.args.c i) =
    cc (
      c.not-n3.ensures i,
      c.bitxor-t0.ensures i,
      c.not.ensures i,
      c.bitand-t1.ensures i,
      c.bitxor-t2.ensures i,
      c.not-2.ensures i,
      c.bitand.ensures i,
      c.bitxor-t3.ensures i,
      c.bitand-t4.ensures i,
      c.bitand-t5.ensures i,
      c.bitxor.ensures i,
      c.bitand-t6.ensures i,
      c.bitxor-2.ensures i,
      c.not-3.ensures i,
      c.bitand-t7.ensures i,
      c.bitxor-x1.ensures i,
      c.bitand-2.ensures i,
      c.not-4.ensures i,
      c.bitand-3.ensures i,
      c.bitxor-x2.ensures i,
      c.not-5.ensures i,
      c.bitand-4.ensures i,
      c.bitxor-3.ensures i,
      c.bitor.ensures i,
      c.bitxor-x3.ensures i,
      c.bitor-2.ensures i,
      c.not-6.ensures i,
      c.bitand-5.ensures i,
      c.not-7.ensures i,
      c.bitand-6.ensures i,
      c.bitxor-x0.ensures i,
    ) in
    lines ∙ unsubstituted_right c.args.self i (word_bit c.args.c i)
