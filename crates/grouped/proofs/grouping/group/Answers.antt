use Rattle.std.proofs.Common.{rules, refl, ◌∙◌, arith}
use Rattle.byte_strings.proofs.FromFn.{from_fn_is}
use Rattle.jh.specs.Permutation.{element_from, group}
use Rattle.jh.proofs.Turns.{group_row}
use Rattle.grouped.proofs.grouping.group.Goals as goal

pub new-requires : goal.new-requires
unfolding group
new-requires c = (
  omega arith,
  (
    omega arith,
    (
      refl,
      group_row c.args.state.now c.from_fn.result
          (from_fn_is _ _ (element_from c.args.state.now) 256 (λ i r q l k. search rules) c.from_fn.result c.from_fn.ensures.items),
    ),
  ),
)

pub returns : goal.returns
unfolding group
returns c =
    c.new.ensures ∙ from_fn_is _ _ (element_from c.args.state.now) 256 (λ i r q l k. search rules) c.from_fn.result c.from_fn.ensures.items
