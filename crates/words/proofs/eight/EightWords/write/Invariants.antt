use Rattle.std.proofs.Common.{ℕ, ◌<◌, slice_index_or}
use Rattle.byte_strings.specs.Bytes.{Bytes}
use Rattle.words.specs.Eight.{WordAt}
use Rattle.words.specs.declared.word.Word.{Word}
use Rattle.words.proofs.eight.EightWords.write.Given as goal

-- the words before k are written
abbrev pub invariant-loop-k : goal.invariant-loop-k
invariant-loop-k l = ((j : ℕ) → j < l.k → (d : Word) → WordAt l.bytes j (slice_index_or l.word-items j d)) × Bytes 128 l.bytes
