use Rattle.std.proofs.Common.{◌≡◌, ℕ, ◌-◌, length, take, ap, ◌∙◌, arith}
use Rattle.std.proofs.lemmas.List.{length-take-le}
use Rattle.refusals.specs.Refusals.{outcome, ship_refusal}
use Rattle.daybook.specs.Contents.{oldest}
use Rattle.replay.proofs.Answering.{shipped_block}
use Rattle.replay.proofs.turn.ship_into.Goals as goal

pub returns-clause-written : goal.returns-clause-written
returns-clause-written g c =
    let k = c.args.roll.now.contents in
    let block = c.args.block.now in
    let m = c.min.result - 0 in
    let e = c.ship.ensures in
    let w = length k.window in
    let l : length (take m block) ≡ m = length-take-le m block (omega (arith, c.min.ensures)) in
    let a : outcome c.ship.result ≡ ship_refusal m w = e.answer ∙ ap (λ (n : ℕ). ship_refusal n w) l in
    shipped_block c.ship.result m w (oldest k) (take m block) c.ship.new.out block c.told-block l (omega (arith, c.min.ensures)) a e.written
