use Rattle.std.proofs.Common.{replicate, ◌∙◌, ap₂}
use Rattle.std.proofs.lemmas.List.{append-nil}
use Rattle.daybook.specs.Daybook.{daybook}
use Rattle.replay.specs.declared.request.Reading.TheVariants.{Sealed}
use Rattle.replay.proofs.Rows.{wrote, total_is}
use Rattle.replay.proofs.replay.read_open.Goals as goal

pub returns : goal.returns
returns g c =
    λ p size calls h.
    let s = c.args.roll.now in
    let w = wrote c.seal.result 128 s.seal (replicate 128 0) c.seal.new.out c.seal.ensures.answer c.seal.ensures.written ∙ append-nil s.seal in
    ap₂ Sealed (c.total.ensures.value ∙ total_is s.contents (daybook size calls) h.keeps) (w ∙ h.sealed)
