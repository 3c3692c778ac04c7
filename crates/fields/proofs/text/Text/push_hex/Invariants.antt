use Rattle.std.proofs.Common.{◌≡◌, ◌++◌, take}
use Rattle.fields.specs.Hex.{hex_of}
use Rattle.fields.proofs.text.Text.push_hex.Given as goal

abbrev pub invariant-loop-b : goal.invariant-loop-b
invariant-loop-b g l = l.self ≡ take g.row.N (l.initial.self ++ hex_of (take l.b-index l.bytes))
