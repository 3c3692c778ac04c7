use Rattle.std.proofs.Common.{ℕ, ◌*◌, ◌/◌, List, [], ◌++◌, length, drop, refl, ap, ◌∙◌, subst}
use Rattle.jh.specs.Ending.{ending}
use Rattle.jh.specs.Message.{tail}
use Rattle.jh.proofs.Padded.{digest_whole_bytes}
use Rattle.refusals.specs.Sizes.{bits_in}
use Rattle.messages.specs.Holds.{Holds}
use Rattle.messages.proofs.feeder.Feeder.finish.Goals as goal

pub returns-clause-written : goal.returns-clause-written
returns-clause-written g c = λ m h.
    let f = c.args.self.now in
    let st = (g.P.Press.means f.press).steps in
    let n = bits_in f.size in
    let o = (g.P.Press.means f.press).opens n in
    let e : Holds st o (m ++ ending 128 (8 * length m)) c.end.new.self =
    subst (λ (k : ℕ). Holds st o (m ++ ending 128 (8 * k)) c.end.new.self) h.counted (c.end.ensures.holds o m h) in
    c.write_tail.ensures ∙ ap (λ (d : List ℕ). d ++ drop (n / 8) c.args.out.now) (ap (tail n) e.chained ∙ digest_whole_bytes m h.bytes st o n)

pub returns-clause-after : goal.returns-clause-after
returns-clause-after g c =
    let st = (g.P.Press.means c.args.self.now.press).steps in
    record {
      press = refl;
      size = refl;
      stands = subst (λ (y : List ℕ). Holds st y [] c.new-fresh.result) c.opening.ensures (c.new-fresh.ensures.holds st);
    }
