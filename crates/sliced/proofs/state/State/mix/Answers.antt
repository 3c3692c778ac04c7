use mathlib.Core.Path.{◌≡◌, ◌∙◌, ap}
use Prim.Native.Nat.{ℕ}
use lib.Bits.{bit_xor, xor_comm}
use Rattle.jh.specs.Field.{times}
use Rattle.jh.specs.Round.{second}
use Rattle.sliced.specs.Slices.{element_at}
use Rattle.jh.proofs.Linear.{first_by_second}
use Rattle.sliced.proofs.Circuits.{small}
use Rattle.sliced.proofs.state.State.mix.Goals as goal

pub returns : goal.returns
returns c i =
    let a : ℕ = element_at c.args.self.even i in
    let b : ℕ = element_at c.args.self.odd i in
    let odd : element_at c.plus_twice-odd.result i ≡ second a b = c.plus_twice-odd.ensures i ∙ xor_comm b (times 2 a) in
    record {
      even = c.plus_twice-even.ensures i ∙ ap (λ (d : ℕ). bit_xor a (times 2 d)) odd ∙ first_by_second a b (small c.args.self.even i) (small c.args.self.odd i);
      odd = odd;
    }
