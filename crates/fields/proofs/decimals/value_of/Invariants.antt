use Rattle.std.proofs.Common.{◌≡◌, ◌^◌, ◌<◌, true, drop}
use Rattle.std.specs.Str.{all_ascii_digits}
use Rattle.fields.specs.Decimals.{read_on}
use Rattle.fields.proofs.decimals.value_of.Given as goal

abbrev pub invariant-loop-b : goal.invariant-loop-b
invariant-loop-b l = (read_on l.value (drop l.b-index l.field) ≡ read_on 0 l.field) × (all_ascii_digits (drop l.b-index l.field) ≡ true) × (l.value < 10 ^ l.b-index)
