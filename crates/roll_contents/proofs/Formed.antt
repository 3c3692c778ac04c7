-- The contents of every roll are well formed.
use Rattle.std.proofs.Common.{arith}
use Rattle.window.proofs.Held.{length_listed}
use Rattle.roll_contents.specs.Contents.{contents_of, WellFormed}
use Rattle.roll_contents.specs.declared.contents.RollContents.{RollContents}
use Rattle.roll_contents.proofs.Texts.{sized}

pub well_formed : (k : RollContents) → WellFormed (contents_of k)
well_formed k =
    let n = length_listed k.window in
    let few = k.window.few in
    record {
      size = sized k.size;
      few = omega arith;
      most = k.standing;
      order = k.order;
      high = k.shipped.high;
      risen = k.shipped.serials;
      fresh = k.shipped.fresh;
      paid = k.shipped.paid;
    }
