use Rattle.std.proofs.Common.{◌≡◌, ℕ, ◌+◌, ◌*◌, ◌<◌, length, get_or}
use Rattle.grouped.proofs.elements.Elements.on_pairs.Given as goal

-- the row is as long as it was, and the first i pairs are written
abbrev pub invariant-loop-i : goal.invariant-loop-i
invariant-loop-i g l =
    (length l.self-inside.places ≡ g.row.N)
    × ((k : ℕ) → k < l.i → goal.F-post g l.layer (get_or l.initial.self-inside.places (2 * k) 0, get_or l.initial.self-inside.places (2 * k + 1) 0)
    (get_or l.self-inside.places (2 * k) 0, get_or l.self-inside.places (2 * k + 1) 0))
