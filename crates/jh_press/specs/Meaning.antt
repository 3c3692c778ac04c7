-- What the JH press means on the way forth.
use Rattle.std.specs.Prelude.{ℕ, List}
use Rattle.jh.specs.Compression.{compress, opening_over, ending_block}
use Rattle.press.specs.Meaning.{Meaning}
use Rattle.jh_press.specs.declared.JhPress.{JhPress}

-- over a permutation with that image
abbrev pub meaning_over : (image : List ℕ → List ℕ) → Meaning
meaning_over image = record { opens = opening_over image; steps = compress image; ends = ending_block }

-- of each JH press, over permutations with those images
abbrev pub jh_means : {P : Type 0} → (image : P → List ℕ → List ℕ) → JhPress P → Meaning
jh_means image p = meaning_over (image p.permutation)
