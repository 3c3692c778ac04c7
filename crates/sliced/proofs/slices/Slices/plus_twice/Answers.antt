use mathlib.Core.Path.{◌≡◌, ◌∙◌}
use Rattle.sliced.specs.Slices.{element_at}
use Rattle.sliced.proofs.Circuits.{of_element, twice_added, twice_added_right}
use Rattle.sliced.proofs.slices.Slices.plus_twice.Goals as goal

-- bit i of each line of the code is that line on bits
pub returns : goal.returns
returns c i =
    let lines : element_at (c.bitxor-z0.result, c.bitxor-z1.result, c.bitxor-z2.result, c.bitxor-z3.result) i ≡ of_element (of_element twice_added c.args.self i) c.args.other i =
    cc (
      c.bitxor-z0.ensures i,
      c.bitxor-z1.ensures i,
      c.bitxor.ensures i,
      c.bitxor-z2.ensures i,
      c.bitxor-z3.ensures i,
    ) in
    lines ∙ twice_added_right c.args.self c.args.other i
