-- No refusal has the number 0.
use Rattle.std.proofs.Common.{◌≤◌, arith}
use Rattle.refusals.specs.Refusals.{number}
use Rattle.refusals.specs.declared.refusal.Refusal.{Refusal}
use Rattle.refusals.specs.declared.refusal.Refusal.TheVariants.{Size, Bytes, Bits, Buffer, Length, Full, Standing, Serial, Form, Price, Shipped, Unknown, Empty, Line, Values, Request}

pub positive : (e : Refusal) → 1 ≤ number e
positive Size = omega arith
positive Bytes = omega arith
positive Bits = omega arith
positive Buffer = omega arith
positive Length = omega arith
positive Full = omega arith
positive Standing = omega arith
positive Serial = omega arith
positive Form = omega arith
positive Price = omega arith
positive Shipped = omega arith
positive Unknown = omega arith
positive Empty = omega arith
positive Line = omega arith
positive Values = omega arith
positive Request = omega arith
