-- How many bits a run of each width has.
use Rattle.std.specs.Prelude.{ℕ}
use Rattle.words.specs.declared.width.Width.{Width}
use Rattle.words.specs.declared.width.Width.TheVariants.{W1, W2, W4, W8, W16, W32, W64}

abbrev pub run_length : Width → ℕ
run_length W1 = 1
run_length W2 = 2
run_length W4 = 4
run_length W8 = 8
run_length W16 = 16
run_length W32 = 32
run_length W64 = 64
