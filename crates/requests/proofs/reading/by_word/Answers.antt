use Rattle.std.proofs.Common.{rules, ◌≡◌, codes, sym, ap, ◌∙◌, arith}
use Rattle.std.proofs.lemmas.Slice.Eq.{text_from_reads}
use Rattle.requests.specs.Requests.{word_of}
use Rattle.requests.proofs.reading.by_word.Goals as goal

pub returns-in-cancel : goal.returns-in-cancel
returns-in-cancel c = let e : c.args.word.now ≡ codes "cancel" = text_from_reads c.args.word.now (codes "cancel") (omega arith) (search rules) in c.cancel.ensures ∙ ap (λ w. word_of w c.args.rest.now) (sym e)

-- Kept: the same answer at each, since as a lemma that the function names once it is tried only after every other tactic has failed
-- there, and the check takes several times as long.
pub returns-in_default : goal.returns-in_default
returns-in_default c = grind rules

pub returns-in_default-2 : goal.returns-in_default-2
returns-in_default-2 c = grind rules

pub returns-in_default-5 : goal.returns-in_default-5
returns-in_default-5 c = grind rules

pub returns-in_default-8 : goal.returns-in_default-8
returns-in_default-8 c = grind rules

pub returns-in_default-9 : goal.returns-in_default-9
returns-in_default-9 c = grind rules

pub returns-in_default-10 : goal.returns-in_default-10
returns-in_default-10 c = grind rules

pub returns-in_default-15 : goal.returns-in_default-15
returns-in_default-15 c = grind rules

pub returns-in_default-16 : goal.returns-in_default-16
returns-in_default-16 c = grind rules
