use Rattle.std.proofs.Common.{◌≡◌, ◌-◌, length, take, drop, arith}
use Rattle.std.proofs.lemmas.List.{length-take-le}
use Rattle.text_laws.specs.Written.{text_of}
use Rattle.text_laws.proofs.Forth.{text_forth}
use Rattle.rolls.specs.Texts.{saved_of}
use Rattle.replay.proofs.Answering.{saved_text}
use Rattle.replay.proofs.turn.save_into.Goals as goal

pub returns-clause-text : goal.returns-clause-text
returns-clause-text g c =
    let s = c.args.roll.now in
    let bytes = c.args.bytes.now in
    let m = c.min.result - 0 in
    let e = c.save.ensures.text in
    let lb = c.told-bytes in
    let l : length (take m bytes) ≡ m = length-take-le m bytes (omega (arith, c.min.ensures)) in
    saved_text s c.save.result (text_of (saved_of s)) (take m bytes) c.save.new.out (drop m bytes) e.text e.long (omega (arith, l, c.min.ensures)) (text_forth (saved_of s) e.valid)
