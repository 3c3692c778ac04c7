use Rattle.std.proofs.Common.{◌≡◌, ℕ, eqb, List, [], ◌∷◌, refl, arith, rules}
use Rattle.std.specs.List.{position_or_len}
use Rattle.std.proofs.lemmas.Iterator.{YieldsList-from_slice}
use Rattle.std.proofs.lemmas.Iterator.Search.{position_from_yields_List}
use Rattle.std.proofs.lemmas.List.{take_rest}
use borrow.Author.Tests.{tests}
use Rattle.fields.specs.Cuts.{up_to}
use Rattle.fields.proofs.cuts.cut.Goals as goal

up_to_is : (b : ℕ) (xs : List ℕ) → position_or_len (λ x. eqb x b) xs ≡ up_to b xs
up_to_is b [] = refl
up_to_is b (x ∷ xs) = let h = up_to_is b xs in grind (arith, h)

pub returns-in_err-n : goal.returns-in_err-n
returns-in_err-n c =
    let p = position_from_yields_List (λ x. eqb x c.args.b) _ _ c.position.result c.position.ensures.ran (YieldsList-from_slice c.args.s.now cc) (λ x b q k. search (rules, tests)) in
    let e = up_to_is c.args.b c.args.s.now in
    let w = c.in_err-n.was in
    grind (arith, p, e, w)

pub returns : goal.returns
returns c =
    let p = position_from_yields_List (λ x. eqb x c.args.b) _ _ c.position.result c.position.ensures.ran (YieldsList-from_slice c.args.s.now cc) (λ x b q k. search (rules, tests)) in
    let e = up_to_is c.args.b c.args.s.now in
    let w = c.in_ok-n.was in
    grind (arith, p, e, w, take_rest)
