use Rattle.std.proofs.Common.{◌≡◌, ℕ, List, get_or, sym, ap, ◌∙◌}
use lib.Bits.{bit_xor}
use Rattle.slicing.specs.Halves.{pair_bit}
use Rattle.slicing.proofs.Halves.{swap_across}
use Rattle.words.specs.Bits.{word_bit}
use Rattle.words.specs.Widths.{run_length}
use Rattle.words.specs.declared.width.Width.{Width}
use Rattle.words.proofs.Lanes.{lanes_exchanged}
use Rattle.words.proofs.word.Word.exchange.Goals as goal
use Rattle.words.proofs.word.Word.exchange.Goals.{in-W1, in-W2, in-W4, in-W8, in-W16, in-W32, in-W64}

-- the shift and the mask of each case pass the tests of `lanes_exchanged`, which antt computes
pub returns : goal.returns
unfolding word_bit
returns c i g =
    let h : ℕ = get_or c.args.self.lanes 0 0 in
    let l : ℕ = get_or c.args.self.lanes 1 0 in
    let r : List ℕ = c.match-width.lanes in
    let at : (v : Width) → c.args.width ≡ v → pair_bit h l (bit_xor i (run_length v)) ≡ pair_bit h l (bit_xor i (run_length c.args.width))
    = λ v e. ap (λ (v : Width). pair_bit h l (bit_xor i (run_length v))) (sym e) in
    elim c.match-width.branch [
      | in-W1 w ↦ lanes_exchanged _ _ h l r (w.lanes-is ∙ w.exchange_runs-lanes.ensures) tt tt i g ∙ at _ w.in-W1.is
      | in-W2 w ↦ lanes_exchanged _ _ h l r (w.lanes-is ∙ w.exchange_runs-lanes-in-W2.ensures) tt tt i g ∙ at _ w.in-W2.is
      | in-W4 w ↦ lanes_exchanged _ _ h l r (w.lanes-is ∙ w.exchange_runs-lanes-in-W4.ensures) tt tt i g ∙ at _ w.in-W4.is
      | in-W8 w ↦ lanes_exchanged _ _ h l r (w.lanes-is ∙ w.exchange_runs-lanes-in-W8.ensures) tt tt i g ∙ at _ w.in-W8.is
      | in-W16 w ↦ lanes_exchanged _ _ h l r (w.lanes-is ∙ w.exchange_runs-lanes-in-W16.ensures) tt tt i g ∙ at _ w.in-W16.is
      | in-W32 w ↦ lanes_exchanged _ _ h l r (w.lanes-is ∙ w.exchange_runs-lanes-in-W32.ensures) tt tt i g ∙ at _ w.in-W32.is
      | in-W64 w ↦
          ap (λ (r : List ℕ). pair_bit (get_or r 0 0) (get_or r 1 0) i) (w.lanes-is ∙ w.exchange_lanes-lanes.ensures)
          ∙ swap_across h l i g ∙ at _ w.in-W64.is
    ]
