-- Lines of requests to the call program on a roll over the drill press, and the lines of their answers.
use Rattle.std.specs.Prelude.{◌≡◌, ℕ, List, [], ◌∷◌, ◌++◌, replicate, codes}
use Rattle.press.specs.Meaning.{Meaning}
use Rattle.drill_press.specs.Drill.{drill}
use Rattle.sessions.specs.Courses.{by_name}
use Rattle.transcript.specs.Output.{output}

-- a line of fields, parted by tabs
abbrev pub line : List (List ℕ) → List ℕ
line [] = 10 ∷ []
line (f ∷ []) = f ++ 10 ∷ []
line (f ∷ (g ∷ fs)) = f ++ (9 ∷ line (g ∷ fs))

abbrev pub drill_requests : List ℕ
drill_requests =
    line (codes "open" ∷ codes "drill" ∷ codes "512" ∷ [])
    ++ (line (codes "cancel" ∷ codes "7" ∷ [])
    ++ (line (codes "close" ∷ [])
    ++ (line (codes "reopen" ∷ [])
    ++ line (codes "total" ∷ []))))

abbrev pub drill_answers : List ℕ
drill_answers =
    line (codes "ok" ∷ [])
    ++ (line (codes "refused" ∷ codes "12" ∷ [])
    ++ (line (codes "closed" ∷ (codes "80" ++ (replicate 124 48 ++ codes "02")) ∷ [])
    ++ (line (codes "ok" ∷ [])
    ++ line (codes "total" ∷ codes "0" ∷ codes "0" ∷ []))))

-- what the call program answers to five lines, whatever its JH press is
abbrev pub DrillAnswered : Type 0
DrillAnswered = (jh : Meaning) → output (by_name jh drill) drill_requests ≡ drill_answers
