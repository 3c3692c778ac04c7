use Rattle.std.proofs.Common.{rules, ap, ◌∙◌}
use Rattle.byte_strings.proofs.FromFn.{from_fn_is}
use Rattle.jh.specs.Permutation.{byte_from, ungroup}
use Rattle.grouped.proofs.grouping.ungroup.Goals as goal

pub returns : goal.returns
unfolding ungroup
returns c =
    from_fn_is _ _ (byte_from c.places-places.result.now) 128 (λ i r q l k. search rules) c.from_fn.result c.from_fn.ensures.items ∙ ap ungroup c.places-places.ensures
