use Rattle.std.proofs.Common.{◌≡◌, ◌+◌, ◌-◌, ◌*◌, ◌^◌, ℕ, ◌≤◌, ◌&&◌, get_or, drop, sym, ap, ◌∙◌, pow-suc, add-one, arith}
use native.Mathlib.Nat.{pow-le-pow_right}
use Rattle.std.specs.Char.{is_ascii_digit}
use Rattle.std.specs.Str.{all_ascii_digits}
use Rattle.std.proofs.lemmas.List.{at_drop_more, at_drop_all}
use Rattle.fields.specs.Decimals.{read_on}
use Rattle.fields.proofs.decimals.value_of.Goals as goal

pub overflow_mul-value : goal.overflow_mul-value
overflow_mul-value c =
    let p = pow-le-pow_right {n = 10} (omega arith) {i = c.loop-b.b-index} {j = 15} (omega arith) in
    omega (arith, p)

pub overflow_sub-b : goal.overflow_sub-b
overflow_sub-b c =
    let e : all_ascii_digits (drop c.loop-b.b-index c.args.field.now) ≡ (is_ascii_digit (get_or c.args.field.now c.loop-b.b-index 0) && all_ascii_digits (drop (c.loop-b.b-index + 1) c.args.field.now)) = at_drop_more all_ascii_digits c.args.field.now c.loop-b.b-index 0 c.loop-b-test.true in
    grind (arith, e)

pub overflow_add-value : goal.overflow_add-value
overflow_add-value c =
    let p = pow-le-pow_right {n = 10} (omega arith) {i = c.loop-b.b-index} {j = 15} (omega arith) in
    omega (arith, p)

pub loop-b-preserved : goal.loop-b-preserved
loop-b-preserved c =
    let e : all_ascii_digits (drop c.loop-b.b-index c.args.field.now) ≡ (is_ascii_digit (get_or c.args.field.now c.loop-b.b-index 0) && all_ascii_digits (drop (c.loop-b.b-index + 1) c.args.field.now)) = at_drop_more all_ascii_digits c.args.field.now c.loop-b.b-index 0 c.loop-b-test.true in
    let r : read_on c.loop-b.value (drop c.loop-b.b-index c.args.field.now) ≡ read_on (10 * c.loop-b.value + (get_or c.args.field.now c.loop-b.b-index 0 - 48)) (drop (c.loop-b.b-index + 1) c.args.field.now) = at_drop_more (read_on c.loop-b.value) c.args.field.now c.loop-b.b-index 0 c.loop-b-test.true in
    let d : get_or c.args.field.now c.loop-b.b-index 0 ≤ 57 = grind (arith, e) in
    let q : 10 ^ (c.loop-b.b-index + 1) ≡ 10 ^ c.loop-b.b-index * 10 = rw add-one (pow-suc 10 c.loop-b.b-index) in
    let s = c.from.ensures in
    (ap (λ (n : ℕ). read_on (10 * c.loop-b.value + n) (drop (c.loop-b.b-index + 1) c.args.field.now)) s ∙ sym r ∙ c.loop-b.invariant.0, grind (arith, e), omega (arith, q, d, s))

pub returns : goal.returns
returns c = let e = at_drop_all (read_on c.loop-b.value) c.args.field.now c.loop-b.b-index c.loop-b-test.false in grind (arith, e)
