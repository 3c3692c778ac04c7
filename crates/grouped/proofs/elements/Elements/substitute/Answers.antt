use Rattle.std.proofs.Common.{ℕ, Bool, sym, ap, ◌∙◌, arith}
use Rattle.byte_strings.proofs.Over.{over_all}
use Rattle.jh.specs.Round.{boxed}
use Rattle.jh.specs.Permutation.{bits}
use Rattle.jh.proofs.Layers.{bits_at, length_boxed, box_more}
use Rattle.jh.proofs.Turns.{same_long, boxed_row}
use Rattle.grouped.specs.Chosen.{chosen}
use Rattle.grouped.proofs.elements.Elements.substitute.Goals as goal

pub loop-i-preserved : goal.loop-i-preserved
loop-i-preserved g c =
    let box : Bool → ℕ → ℕ = chosen c.args.s0.now c.args.s1.now in
    let xs = c.self.inside.places in
    let e = same_long c.args.constant.now xs (c.self.invariant.1.long ∙ c.requires.matched) in
    box_more box (bits c.args.constant.now) xs e c.loop-i.i (omega (arith, c.self.invariant.1.long)) c.loop-i.element-items c.loop-i.invariant
    c.bit_of.result c.look_up.result (c.bit_of.ensures ∙ sym (bits_at c.args.constant.now c.loop-i.i (omega (arith, c.requires.matched)))) c.look_up.ensures

pub invariant_of-self : goal.invariant_of-self
invariant_of-self g c =
    let box : Bool → ℕ → ℕ = chosen c.args.s0.now c.args.s1.now in
    let xs = c.self.inside.places in
    let ks = bits c.args.constant.now in
    let l = c.self.invariant.1.long in
    let e = same_long c.args.constant.now xs (l ∙ c.requires.matched) in
    let n = length_boxed box ks xs e in (
      c.self.invariant.0,
      boxed_row g.row.N xs c.loop-i.element-items c.self.invariant.1 box c.requires.elements c.args.constant.now c.requires.matched
          (c.loop-i.invariant ∙ over_all c.loop-i.i (boxed box ks xs) xs (omega arith) (omega arith)),
    )

pub returns : goal.returns
returns g c =
    let box : Bool → ℕ → ℕ = chosen c.args.s0.now c.args.s1.now in
    let xs = c.self.inside.places in
    let ks = bits c.args.constant.now in
    let l = c.self.invariant.1.long in
    let e = same_long c.args.constant.now xs (l ∙ c.requires.matched) in
    let n = length_boxed box ks xs e in
    c.loop-i.invariant ∙ over_all c.loop-i.i (boxed box ks xs) xs (omega arith) (omega arith) ∙ ap (boxed box ks) c.self.view_is
