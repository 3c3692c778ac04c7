-- The fields of an answer: a word with its tab, and what stands behind it.
use Rattle.std.proofs.Common.{◌≡◌, ℕ, ◌+◌, ◌<◌, List, [], ◌++◌, length, take, sym, ap, ◌∙◌, arith, length-append}
use Rattle.fields.proofs.Texts.{two_parts}
use Rattle.answers.specs.Said.{said, capacity, fields_of, Tells}
use Rattle.answers.specs.declared.answer.LineAnswer.{LineAnswer}

pub tells : (a b : LineAnswer) (word rest : List ℕ) (none first text : List ℕ) → a ≡ b → fields_of (said b) ≡ word ++ rest → length word + length rest < capacity
    → none ≡ [] → first ≡ take capacity (none ++ word) → text ≡ take capacity (first ++ rest) → Tells text (said a)
tells a b word rest none first text e f short e0 e1 e2 =
    let l = length-append word rest in
    let g : fields_of (said a) ≡ word ++ rest = ap (λ x. fields_of (said x)) e ∙ f in
    let n = ap length g in
    record {
      bytes = two_parts capacity none first text word rest e0 e1 e2 (omega (arith, l, short)) ∙ sym g;
      room = omega (arith, n, l, short);
    }
