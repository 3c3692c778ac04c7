-- The drill press: a rotation by one byte and an exclusive or into the second half.
use Rattle.std.specs.Prelude.{ℕ, List, ◌++◌, take, drop}
use Rattle.jh.specs.Compression.{high, size_bytes, ending_block}
use Rattle.press.specs.Meaning.{Meaning}

-- each byte moves one place down, byte 0 to place 127; then the block goes into bytes 64 to 127
unfoldable pub stepped : List ℕ → List ℕ → List ℕ
stepped c m = high (drop 1 c ++ take 1 c) m

-- the block comes out again, and each byte moves one place up
unfoldable pub stepped_back : List ℕ → List ℕ → List ℕ
stepped_back c m = drop 127 (high c m) ++ take 127 (high c m)

-- what the drill press means on the way forth
abbrev pub drill : Meaning
drill = record { opens = size_bytes; steps = stepped; ends = ending_block }
