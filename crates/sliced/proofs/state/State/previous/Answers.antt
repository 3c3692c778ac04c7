use mathlib.Core.Path.{◌≡◌, ◌∙◌, ap}
use Prim.Native.Nat.{ℕ, ◌<◌, ◌%◌, ◌^◌}
use lib.Bits.{bit_xor}
use Rattle.jh.specs.Inverse.{unsbox, unfirst, unsecond}
use Rattle.words.specs.Bits.{word_bit}
use Rattle.sliced.specs.Slices.{element_at}
use Rattle.sliced.proofs.OneRound.{round_back}
use Rattle.sliced.proofs.state.State.previous.Goals as goal

pub returns : goal.returns
returns c q e l =
    let s = c.args.self in
    let k = c.round_constant-c.result in
    let was = round_back c.args.round c.requires.below k c.round_constant-c.ensures q e (element_at s.even) (element_at s.odd) l in
    let unmixed = c.unmix-unmixed.ensures in
    let exchanged : (i : ℕ) → i < 128 → element_at c.exchange-odd.result i ≡ element_at s.odd (bit_xor i (2 ^ (c.args.round % 7)))
    = λ i h. c.exchange-odd.ensures i h ∙ ap (λ (w : ℕ). element_at s.odd (bit_xor i w)) c.requires.turn in
    record {
      evens = λ i h.
          c.unsubstitute.ensures i
          ∙ ap (unsbox (word_bit k.even i)) ((unmixed i).even ∙ ap (unfirst (element_at s.even i)) (exchanged i h)) ∙ was.evens i h;
      odds = λ i h.
          c.unsubstitute-2.ensures i
          ∙ ap (unsbox (word_bit k.odd i)) ((unmixed i).odd ∙ ap (unsecond (element_at s.even i)) (exchanged i h)) ∙ was.odds i h;
    }
