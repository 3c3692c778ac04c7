use Rattle.std.proofs.Common.{◌&&◌, refl, ◌∙◌, rules}
use Rattle.std.specs.List.{list_all}
use Rattle.std.proofs.lemmas.Iterator.{YieldsList-from_slice}
use Rattle.std.proofs.lemmas.Iterator.Search.{all_from_yields_List}
use Rattle.std.proofs.lemmas.List.Recursion.{same_from_clauses}
use borrow.Author.Tests.{tests}
use Rattle.fields.specs.Hex.{is_hex_digit, all_hex}
use Rattle.fields.proofs.hex.all_hex.Goals as goal

pub returns : goal.returns
returns c =
    all_from_yields_List is_hex_digit _ _ _ c.all.ensures.ran (YieldsList-from_slice c.args.field.now cc) (λ x b q k. search (rules, tests))
    ∙ same_from_clauses (list_all is_hex_digit) all_hex (λ b more. is_hex_digit b && more) refl (λ _ _. refl) (λ _ _. refl) c.args.field.now
