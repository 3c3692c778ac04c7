-- What a closed roll over the JH press tells.
use Rattle.std.proofs.Common.{◌≡◌, ℕ, ◌-◌, ◌/◌, List, ◌++◌, drop, replicate, IfOk, Ok, Err, Result, ap, ◌∙◌, ap₂}
use Rattle.std.specs.List.{AllByRecursion}
use Rattle.byte_strings.specs.Bytes.{Bytes}
use Rattle.jh.specs.Jh.{MeansE8}
use Rattle.refusals.specs.declared.refusal.Refusal.{Refusal}
use Rattle.press.specs.declared.Declined.{Declined}
use Rattle.jh_press.specs.Meaning.{meaning_over, jh_means}
use Rattle.jh_press.specs.declared.JhPress.{JhPress}
use Rattle.daybook.specs.States.{State}
use Rattle.daybook.specs.Daybook.{Call, Daybook, unwritten, daybook}
use Rattle.daybook.proofs.Notes.{size_kept}
use Rattle.rolls.specs.Buffers.{Writes}
use Rattle.rolls.specs.Rolls.{digest_length, digest_in}
use Rattle.replay.specs.Heard.{Phase, heard, total_at, digest_at, reading_at}
use Rattle.replay.specs.Replays.{Replays}
use Rattle.replay.specs.declared.request.Request.{Request}
use Rattle.replay.specs.declared.request.Answer.{Answer}
use Rattle.replay.specs.declared.request.Reading.{Reading}
use Rattle.replay.specs.declared.request.Reading.TheVariants.{Digested}
use Rattle.jh_rolls.specs.Jh.{CameShut, jh_of, TellsJh}
use Rattle.jh_rolls.proofs.Rows.{jh_row}

digest_jh : (f : List ℕ → List ℕ) → MeansE8 f → (d : Daybook) → AllByRecursion (Bytes 64) d.standing
    → digest_at (meaning_over f) d ≡ jh_of d
digest_jh f means d wide = jh_row f means d.size d.standing wide

module _ {P : Type 0} (image : P → List ℕ → List ℕ) where
  pub tells_jh : (p : JhPress P) → MeansE8 (image p.permutation) → (size : ℕ) (qs : List Request) (old new : List Answer) (r : Result Reading (Declined (JhPress P)))
      → Replays (jh_means image) p size qs old new r → IfOk r (λ x. TellsJh size qs x)
  tells_jh p means size qs old new (Err x) h = tt
  tells_jh p means size qs old new (Ok x) h =
      λ e.
      let d = daybook size (heard size qs).calls in
      let f = image p.permutation in
      h.1.reading
      ∙ ap (λ (y : Phase). reading_at (meaning_over f) y d) e
      ∙ ap₂ (λ (y : List ℕ) (n : ℕ). Digested (total_at d) (y ++ drop (n / 8) (replicate 64 0))) (digest_jh f means d h.1.blocks) (size_kept (unwritten size) (heard size qs).calls)

  pub writes_jh : (s : State (JhPress P)) → MeansE8 (image s.press.permutation) → (old new : List ℕ) (r : Result (Unit {0}) Refusal)
      → Writes r (digest_length s) (digest_in s) old new
      → IfOk r (λ _. (size : ℕ) (calls : List Call) → CameShut image s size calls → new ≡ jh_of (daybook size calls) ++ drop (size / 8) old)
  writes_jh s means old new (Err e) w = tt
  writes_jh s means old new (Ok u) w =
      λ size calls h.
      let d = daybook size calls in
      let f = image s.press.permutation in
      let k : s.contents.size ≡ d.size = h.keeps.size in
      w.1
      ∙ ap₂ (λ (n : ℕ) (c : List ℕ). drop (128 - n / 8) c ++ drop (n / 8) old) k h.sealed
      ∙ ap₂ (λ (y : List ℕ) (n : ℕ). y ++ drop (n / 8) old) (digest_jh f means d h.keeps.blocks) (size_kept (unwritten size) calls)
