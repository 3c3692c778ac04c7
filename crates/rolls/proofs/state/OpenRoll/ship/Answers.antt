use Rattle.std.proofs.Common.{◌≡◌, ℕ, length, rules, arith}
use Rattle.std.proofs.lemmas.List.{length-take-le}
use Rattle.rolls.proofs.state.OpenRoll.ship.Goals as goal

pub copy_from_slice-requires : goal.copy_from_slice-requires
copy_from_slice-requires g c = let e : length c.from.result ≡ 64 = search rules in omega (arith, length-take-le {A = ℕ})
