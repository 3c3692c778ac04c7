use Prim.Native.Nat.{ℕ, ◌+◌, ◌*◌}
use native.Mathlib.Omega.{arith}
use Rattle.sliced.proofs.OneRound.{recounted}
use Rattle.sliced.proofs.state.State.previous_seven.Goals as goal

pub returns : goal.returns
returns c q e l =
    let n : ℕ = 7 * c.args.turn in
    let l6 = c.previous.ensures q e (recounted q c.args.self (7 * (c.args.turn + 1)) (n + 6 + 1) (omega arith) l) in
    let l5 = c.previous-2.ensures q e (recounted q c.previous.result (n + 6) (n + 5 + 1) (omega arith) l6) in
    let l4 = c.previous-3.ensures q e (recounted q c.previous-2.result (n + 5) (n + 4 + 1) (omega arith) l5) in
    let l3 = c.previous-4.ensures q e (recounted q c.previous-3.result (n + 4) (n + 3 + 1) (omega arith) l4) in
    let l2 = c.previous-5.ensures q e (recounted q c.previous-4.result (n + 3) (n + 2 + 1) (omega arith) l3) in
    let l1 = c.previous-6.ensures q e (recounted q c.previous-5.result (n + 2) (n + 1 + 1) (omega arith) l2) in
    c.previous-7.ensures q e l1
