use Rattle.std.proofs.Common.{◌≡◌, ◌+◌, length}
use Rattle.window.specs.Listed.{listed}
use Rattle.saved_text.proofs.Turns.{Come}
use Rattle.saved_text.proofs.reading.read_window.Given as goal

abbrev pub invariant-loop-at : goal.invariant-loop-at
invariant-loop-at l = record { come : Come l.count l.at l.last l.before (listed l.window) l.rest l.text; long : length (listed l.window) + 3 ≡ l.at }
