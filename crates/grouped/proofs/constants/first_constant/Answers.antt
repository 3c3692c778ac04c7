use Rattle.std.proofs.Common.{rules, ◌≡◌, ℕ, ◌-◌, ◌*◌, ◌/◌, ◌%◌, ◌^◌, ◌<◌, eqb, List, [], ◌∷◌, map, get_or, sym, refl, ◌∙◌, arith, eqb→eq}
use Rattle.std.specs.List.{range_with_len}
use Rattle.std.proofs.lemmas.List.FromFn.{fill_by_all}
use Rattle.byte_strings.proofs.FromFn.{from_fn_is}
use Rattle.jh.specs.Constants.{C0, constant}
use Rattle.jh.proofs.Below.{below_at}
use Rattle.jh.proofs.Turns.{constant_row}
use Rattle.grouped.proofs.constants.first_constant.Goals as goal

-- C_0 in words of 64 bits, and element i in them: a test at 64 places
abbrev words : List ℕ
words = C0 / 2 ^ 192 ∷ C0 / 2 ^ 128 % 2 ^ 64 ∷ C0 / 2 ^ 64 % 2 ^ 64 ∷ C0 % 2 ^ 64 ∷ []

abbrev element : ℕ → ℕ
element i = get_or words (i / 16) 0 / 2 ^ (60 - i % 16 * 4) % 16

constant_element : (i : ℕ) → i < 64 → element i ≡ get_or (constant 0) i 0
constant_element i h = eqb→eq (element i) (get_or (constant 0) i 0) (below_at 64 (λ k. eqb (element k) (get_or (constant 0) k 0)) tt i h)

first_is : (ys : List ℕ) → ys ≡ map element (range_with_len 0 64) → ys ≡ constant 0
first_is ys e = e ∙ sym (fill_by_all element (constant 0) 64 0 refl (λ k h. sym (constant_element k h)))

pub new-requires : goal.new-requires
new-requires c = (
  omega arith,
  (
    omega arith,
    (refl, constant_row 0 c.from_fn.result (first_is c.from_fn.result (from_fn_is _ _ element 64 (λ i r q l k. search rules) c.from_fn.result c.from_fn.ensures.items))),
  ),
)

pub returns : goal.returns
returns c =
    c.new.ensures ∙ first_is c.from_fn.result (from_fn_is _ _ element 64 (λ i r q l k. search rules) c.from_fn.result c.from_fn.ensures.items)
