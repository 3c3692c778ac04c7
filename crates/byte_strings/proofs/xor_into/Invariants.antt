use Rattle.std.proofs.Common.{◌≡◌}
use Rattle.byte_strings.specs.Bytes.{xored}
use Rattle.byte_strings.proofs.Over.{over}
use Rattle.byte_strings.proofs.xor_into.Given as goal

abbrev pub invariant-loop-i : goal.invariant-loop-i
invariant-loop-i l = l.bytes ≡ over l.i (xored l.initial.bytes l.fn.mask) l.initial.bytes
