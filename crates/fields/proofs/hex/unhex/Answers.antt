use Rattle.std.proofs.Common.{◌∙◌, get_or, sym, refl, rules}
use Rattle.std.proofs.lemmas.List.FromFn.{fill_by_all}
use Rattle.byte_strings.proofs.FromFn.{from_fn_is}
use Rattle.fields.specs.Hex.{bytes_of}
use Rattle.fields.proofs.Pairs.{length_bytes}
use Rattle.fields.proofs.hex.unhex.Goals as goal

pub returns : goal.returns
returns g c =
    let bytes = bytes_of c.args.field.now in
    from_fn_is _ _ (λ i. get_or bytes i 0) g.row.N (λ i r q l k. search rules) c.from_fn.result c.from_fn.ensures.items
    ∙ sym (fill_by_all (λ i. get_or bytes i 0) bytes g.row.N 0 (length_bytes g.row.N c.args.field.now c.requires.0) (λ k l. refl))
