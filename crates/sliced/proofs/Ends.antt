-- The eight words of 128 bytes, as a sliced state, are the sliced form of the elements that the bytes group into.
use mathlib.Core.Path.{◌≡◌, sym, ap, ◌∙◌}
use mathlib.Core.List.{List}
use Prim.Native.Nat.{ℕ, ◌<◌, ◌+◌, ◌*◌, ◌/◌, ◌%◌}
use native.Mathlib.Omega.{arith}
use lib.ListN.{get_or}
use lib.Dec.{lit<}
use Rattle.jh.specs.Permutation.{byte_bit, group}
use Rattle.jh.proofs.Grouping.{group_at}
use Rattle.slicing.specs.Places.{place}
use Rattle.slicing.proofs.Slices.{element_same}
use Rattle.words.specs.Eight.{WordAt, WordsIn}
use Rattle.words.specs.declared.word.Word.{Word}
use Rattle.words.specs.declared.eight.EightWords.{EightWords}
use Rattle.sliced.specs.Slices.{element_at}
use Rattle.sliced.specs.State.{Form}
use Rattle.sliced.specs.declared.slices.Slices.{Slices}

-- four words, each two after the other, hold the elements at the places of one parity
element_in : (x : List ℕ) (e : Slices) (k : ℕ) → WordAt x k e.0 → WordAt x (k + 2) e.1 → WordAt x (k + 4) e.2 → WordAt x (k + 6) e.3
    → (i p : ℕ) → i < 128 → p < 256 → p % 2 * 128 + p / 2 ≡ 128 * k + i → element_at e i ≡ get_or (group x) p 0
element_in x e k a b c d i p h g n =
    let n1 : 128 * (k + 2) + i ≡ p % 2 * 128 + p / 2 + 256 = omega arith in
    let n2 : 128 * (k + 4) + i ≡ p % 2 * 128 + p / 2 + 512 = omega arith in
    let n3 : 128 * (k + 6) + i ≡ p % 2 * 128 + p / 2 + 768 = omega arith in
    element_same (a i h ∙ ap (byte_bit x) (sym n)) (b i h ∙ ap (byte_bit x) n1) (c i h ∙ ap (byte_bit x) n2) (d i h ∙ ap (byte_bit x) n3)
    ∙ sym (group_at x p g)

module _ {x : List ℕ} {w : EightWords} (d : Word) (v : WordsIn x w) where
  abbrev word : ℕ → Word
  word k = get_or w.0 k d

  abbrev even : Slices
  even = (word 0, word 2, word 4, word 6)

  abbrev odd : Slices
  odd = (word 1, word 3, word 5, word 7)

  pub words_form : Form 0 (group x) (record { even = even; odd = odd })
  words_form = record {
    evens = λ i h.
        element_in x even 0 (v.word 0 d (lit< tt)) (v.word 2 d (lit< tt)) (v.word 4 d (lit< tt)) (v.word 6 d (lit< tt)) i (2 * place 0 i) h (omega arith) (omega arith);
    odds = λ i h.
        element_in x odd 1 (v.word 1 d (lit< tt)) (v.word 3 d (lit< tt)) (v.word 5 d (lit< tt)) (v.word 7 d (lit< tt)) i (2 * place 0 i + 1) h (omega arith) (omega arith);
  }
