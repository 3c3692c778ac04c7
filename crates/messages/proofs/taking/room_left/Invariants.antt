use Rattle.std.proofs.Common.{◌≡◌, ◌+◌, length, take}
use Rattle.std.specs.List.{flat_map}
use Rattle.messages.proofs.taking.room_left.Given as goal

abbrev pub invariant-loop-part : goal.invariant-loop-part
invariant-loop-part l = length (flat_map (λ x. x.now) (take l.part-index l.parts)) + l.left ≡ l.room
