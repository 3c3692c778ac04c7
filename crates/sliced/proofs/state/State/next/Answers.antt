use mathlib.Core.Path.{◌∙◌, ap, ap₂}
use Prim.Native.Nat.{ℕ}
use lib.Bits.{bit_xor}
use Rattle.jh.specs.Round.{first, second}
use Rattle.sliced.specs.Slices.{element_at}
use Rattle.sliced.proofs.OneRound.{round_forth}
use Rattle.sliced.proofs.state.State.next.Goals as goal

pub returns : goal.returns
returns c q e l =
    let s = c.args.self in
    let n = round_forth c.args.round c.requires.below c.round_constant-c.result c.round_constant-c.ensures q e (element_at s.even) (element_at s.odd) l in
    let mixed = c.mix-mixed.ensures in
    let one = c.substitute-even.ensures in
    let two = c.substitute-odd.ensures in
    record {
      evens = λ i h. (mixed i).even ∙ ap₂ first (one i) (two i) ∙ n.evens i h;
      odds = λ i h.
          let j : ℕ = bit_xor i _ in
          c.exchange.ensures i h ∙ ap (λ (w : ℕ). element_at c.mix-mixed.result.odd (bit_xor i w)) c.requires.turn
          ∙ (mixed j).odd ∙ ap₂ second (one j) (two j) ∙ n.odds i h;
    }
