-- A whole roll: its press, its seal and its contents, and what each accepted call makes of it. `means`
-- says what each press means on the way forth, and backs is one block back.
use Rattle.std.specs.Prelude.{◌≡◌, ℕ, List, [], ◌∷◌, Ok, Err, fold, Result}
use Rattle.press.specs.Meaning.{Meaning}
use Rattle.passages.specs.Rows.{onward, later}
use Rattle.daybook.specs.Contents.{Contents, nothing_yet, standing_count, passed, cancelled, sent}

pub record State (P : Type 0) : Type 0 where
  pub press : P
  -- the chain value: the seal of an open roll, and of a closed one the seal stepped with the ending block
  pub seal : List ℕ
  pub contents : Contents

-- a new roll: the opening value of its size, and no passage
abbrev pub after_open : {P : Type 0} → (P → Meaning) → P → ℕ → State P
after_open means p size = record { press = p; seal = (means p).opens size; contents = nothing_yet size }

-- a pass of m: it joins the window, and the seal steps with it
abbrev pub after_pass : {P : Type 0} → (P → Meaning) → State P → List ℕ → State P
after_pass means s m = record { press = s.press; seal = (means s.press).steps s.seal m; contents = passed s.contents m }

-- a chain value wound back through passages, the last of them first
abbrev pub unwound : (List ℕ → List ℕ → List ℕ) → List ℕ → List (List ℕ) → List ℕ
unwound back c [] = c
unwound back c (m ∷ ms) = back (unwound back c ms) m

-- a cancel of the serial n: the seal is wound back through the window from its end to the cancelled passage, that one
-- included, and steps through the later ones again
abbrev pub after_cancel : {P : Type 0} → (P → Meaning) → (backs : P → List ℕ → List ℕ → List ℕ) → State P → ℕ → State P
after_cancel means backs s n =
    let w = s.contents.window in
    record {
      press = s.press;
      seal = fold (means s.press).steps (unwound (backs s.press) s.seal (onward n w)) (later n w);
      contents = cancelled s.contents n;
    }

-- a ship: the seal stays
abbrev pub after_ship : {P : Type 0} → State P → State P
after_ship s = record { press = s.press; seal = s.seal; contents = sent s.contents }

-- a close: the seal steps with the ending block for the count of standing passages
abbrev pub after_close : {P : Type 0} → (P → Meaning) → State P → State P
after_close means s =
    record {
      press = s.press;
      seal = (means s.press).steps s.seal ((means s.press).ends (standing_count s.contents));
      contents = s.contents;
    }

-- a reopen: the ending block is wound back
abbrev pub after_reopen : {P : Type 0} → (P → Meaning) → (backs : P → List ℕ → List ℕ → List ℕ) → State P → State P
after_reopen means backs s =
    record {
      press = s.press;
      seal = backs s.press s.seal ((means s.press).ends (standing_count s.contents));
      contents = s.contents;
    }

-- a call with the result r on a roll that stood at `old`: accepted, it leaves the roll at `new`; refused, as it was
abbrev pub Leaves : {P X E : Type 0} → Result X E → (old now new : State P) → Type 0
Leaves (Ok x) old now new = now ≡ new
Leaves (Err e) old now new = now ≡ old
