-- The drill case, computed.
use Rattle.std.proofs.Common.{refl}
use Rattle.std.specs.Fmt.{digits}
use Rattle.jh.specs.Compression.{ending_block, high}
use Rattle.drill_press.specs.Drill.{stepped}
use Rattle.examples.specs.Rolls.{DrillAnswered}

pub drill_answered : DrillAnswered
unfolding ending_block high digits stepped
drill_answered jh = refl
