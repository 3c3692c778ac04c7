use Rattle.std.proofs.Common.{ℕ, ◌-◌, ◌/◌, List, ◌++◌, drop, replicate, ◌∙◌, ap₂}
use Rattle.daybook.specs.Daybook.{daybook}
use Rattle.rolls.specs.Rolls.{digest_length, digest_in}
use Rattle.replay.specs.declared.request.Reading.TheVariants.{Digested}
use Rattle.replay.proofs.Rows.{wrote, digest_room, total_is}
use Rattle.replay.proofs.replay.read_closed.Goals as goal

pub returns : goal.returns
returns g c =
    λ p size calls h.
    let s = c.args.roll.now in
    let d = daybook size calls in
    let e = c.digest.ensures in
    let w = wrote c.digest.result (digest_length s) (digest_in s) (replicate 64 0) c.digest.new.out (e.answer ∙ digest_room s.contents.size e.size) e.written in
    ap₂ Digested (c.total.ensures.value ∙ total_is s.contents d h.keeps)
    (w ∙ ap₂ (λ (n : ℕ) (x : List ℕ). drop (128 - n / 8) x ++ drop (n / 8) (replicate 64 0)) h.keeps.size h.sealed)
