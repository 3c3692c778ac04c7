use Rattle.std.proofs.Common.{refl}
use Rattle.std.specs.Fmt.{digits}
use Rattle.jh.specs.Compression.{ending_block}
use Rattle.examples.proofs.Drill.{drill_answered}
use Rattle.examples.proofs.worked_examples.Goals as goal

pub returns : goal.returns
unfolding ending_block digits
returns c = record {
  s0 = (refl, refl);
  s1 = (refl, refl);
  linear_1_0 = (refl, refl);
  linear_0_1 = (refl, refl);
  linear_8_0 = (refl, refl);
  moves = (refl, refl, refl, refl);
  padding = (refl, refl, refl, refl);
  ending = (refl, refl, refl);
  saved = refl;
  answered = drill_answered;
}
