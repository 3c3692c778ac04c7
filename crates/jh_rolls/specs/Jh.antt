-- Rolls over the JH press, and what they tell over a permutation that means E8.
use Rattle.std.specs.Prelude.{◌≡◌, ℕ, ◌/◌, List, ◌++◌, drop, replicate}
use Rattle.jh.specs.Message.{bits_of}
use Rattle.jh.specs.Jh.{jh}
use Rattle.jh_press.specs.Meaning.{jh_means}
use Rattle.jh_press.specs.declared.JhPress.{JhPress}
use Rattle.daybook.specs.States.{State}
use Rattle.daybook.specs.Daybook.{Call, Daybook, daybook}
use Rattle.daybook.specs.Course.{CameClosed}
use Rattle.replay.specs.Heard.{heard, shut, total_at}
use Rattle.replay.specs.declared.request.Request.{Request}
use Rattle.replay.specs.declared.request.Reading.{Reading}
use Rattle.replay.specs.declared.request.Reading.TheVariants.{Digested}
use Rattle.jh_rolls.specs.Message.{in_a_row}

-- a closed roll at the state s, over a permutation with that image, came by these calls, after it was opened with that size
abbrev pub CameShut : {P : Type 0} → (image : P → List ℕ → List ℕ) → State (JhPress P) → ℕ → List Call → Type 0
CameShut image s size calls = CameClosed (jh_means image) s.press s size calls

-- JH of the standing passages joined in order
abbrev pub jh_of : Daybook → List ℕ
jh_of d = jh d.size (bits_of (in_a_row d.standing))

-- a row of requests that left the roll closed: the digest that it tells is JH of the standing passages
abbrev pub TellsJh : ℕ → List Request → Reading → Type 0
TellsJh size qs x =
    let d = daybook size (heard size qs).calls in
    (heard size qs).phase ≡ shut → x ≡ Digested (total_at d) (jh_of d ++ drop (size / 8) (replicate 64 0))
