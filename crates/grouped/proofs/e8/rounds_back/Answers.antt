use Rattle.std.proofs.Common.{◌≡◌, ℕ, ◌+◌, ◌-◌, List, sym, ap, ◌∙◌, arith}
use Rattle.jh.specs.Constants.{constant, zeros}
use Rattle.jh.specs.Permutation.{bits}
use Rattle.jh.specs.Inverse.{unround, before}
use Rattle.jh.proofs.Turns.{constant_back, before_none, before_next}
use Rattle.grouped.proofs.e8.rounds_back.Goals as goal

none_done : (n : ℕ) → n ≡ n - 0
none_done n = omega arith

pub loop-r-init : goal.loop-r-init
loop-r-init c = (
  c.constant_at-constant.ensures ∙ ap constant (none_done c.args.rounds),
  ap (λ (n : ℕ). before n c.args.elements.now) (sym (none_done c.args.rounds)),
)

pub loop-r-preserved : goal.loop-r-preserved
loop-r-preserved c =
    let n : ℕ = c.args.rounds in
    let r : ℕ = c.loop-r._r in
    let k = c.retreat.ensures ∙ ap (unround zeros) c.loop-r.invariant.0 ∙ constant_back n r c.loop-r-test.true in
    let e : c.unround.new.self ≡ unround (bits (constant (n - (r + 1)))) c.loop-r.elements
    = c.unround.ensures ∙ ap (λ (ks : List ℕ). unround (bits ks) c.loop-r.elements) (c.places.ensures ∙ k) in (
      k,
      ap (before (n - (r + 1))) e ∙ before_next n r c.loop-r.elements c.loop-r-test.true ∙ c.loop-r.invariant.1,
    )

pub returns : goal.returns
returns c =
    let e : c.args.rounds - c.loop-r._r ≡ 0 = omega arith in
    sym (before_none c.loop-r.elements) ∙ ap (λ (n : ℕ). before n c.loop-r.elements) (sym e) ∙ c.loop-r.invariant.1
