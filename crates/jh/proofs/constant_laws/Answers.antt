use Rattle.std.proofs.Common.{lit<, lit≤}
use Rattle.jh.proofs.constant_laws.Goals as goal

pub returns : goal.returns
returns c = (lit≤ tt, lit< tt)
