-- A row of requests, one more; and what a roll tells after it.
use Rattle.std.proofs.Common.{◌≡◌, ℕ, ◌+◌, ◌/◌, ◌<◌, true, List, [], ◌∷◌, ◌++◌, length, get_or, take, drop, set, Ok, Err, Result, sym, ap, ◌∙◌, subst, ap₂}
use Rattle.press.specs.Meaning.{Meaning}
use Rattle.std.proofs.lemmas.List.{take_more_set, drop-drop, drop-set}
use Rattle.std.proofs.lemmas.List.Sums.{fold_more}
use Rattle.std.proofs.lemmas.Bool.{eqb-false}
use Rattle.std.specs.List.{AllByRecursion}
use Rattle.byte_strings.specs.Bytes.{Bytes}
use Rattle.refusals.specs.Refusals.{number, outcome, buffer_refusal}
use Rattle.refusals.specs.Sizes.{is_size}
use Rattle.refusals.specs.declared.refusal.Refusal.{Refusal}
use Rattle.refusals.proofs.Sizes.{room_enough}
use Rattle.daybook.specs.Contents.{Contents}
use Rattle.daybook.specs.Daybook.{Call, Daybook, daybook}
use Rattle.daybook.specs.Course.{Keeps}
use Rattle.daybook.proofs.Notes.{standing_is, cents_are}
use Rattle.rolls.specs.Buffers.{Writes}
use Rattle.roll_contents.specs.Contents.{total_of}
use Rattle.roll_contents.specs.declared.contents.Total.{Total}
use Rattle.rolls.proofs.Sizes.{size_named}
use Rattle.replay.specs.Heard.{Heard, Phase, opened, turn, hear, heard, total_at}
use Rattle.replay.specs.Stands.{Stands, Turned, Ran}
use Rattle.replay.specs.declared.request.Request.{Request}
use Rattle.replay.specs.declared.request.Answer.{Answer}
use Rattle.replay.specs.declared.roll.Roll.{Roll}
use Rattle.replay.specs.declared.roll.Roll.TheVariants.{Open, Saved, Closed}
use Rattle.replay.proofs.Answering.{not_zero}

module _ {P : Type 0} (means : P → Meaning) (p : P) (size : ℕ) where
  -- one request more
  pub ran_more : (r r' : Roll P) (old new : List Answer) (a : Answer) (qs : List Request) (i : ℕ) (d : Request) → i < length qs → i < length new
      → Ran means p size r old new (heard size (take i qs)) i
      → ((f : Phase) (calls : List Call) → Stands means p size r f calls → Turned means p size r' a (turn size f calls (get_or qs i d)))
      → Ran means p size r' old (set new i a) (heard size (take (i + 1) qs)) (i + 1)
  ran_more r r' old new a qs i d lq ln h step =
      let s = heard size (take i qs) in
      let e : heard size (take (i + 1) qs) ≡ hear size s (get_or qs i d) = fold_more (hear size) (record { phase = opened; calls = []; answers = [] }) qs i d lq in
      let t = step s.phase s.calls h.stands in
      subst (λ (x : Heard). Ran means p size r' old (set new i a) x (i + 1)) (sym e)
      (record {
        stands = t.stands;
        first = take_more_set new i a ln ∙ ap (λ l. l ++ a ∷ []) h.first ∙ ap (λ x. s.answers ++ x ∷ []) t.answer;
        rest = sym (drop-drop 1 i (set new i a)) ∙ ap (drop 1) (drop-set new i a ln) ∙ sym (drop-drop 1 i new) ∙ ap (drop 1) h.rest ∙ drop-drop 1 i old;
      })

  pub stands_blocks : (r : Roll P) (f : Phase) (calls : List Call) → Stands means p size r f calls → AllByRecursion (Bytes 64) (daybook size calls).standing
  stands_blocks (Open o) f calls h = h.1.keeps.blocks
  stands_blocks (Saved o t) f calls h = h.1.keeps.blocks
  stands_blocks (Closed c) f calls h = h.1.keeps.blocks

-- a call that was not refused wrote
pub wrote : (r : Result (Unit {0}) Refusal) (n : ℕ) (text old new : List ℕ) → outcome r ≡ 0 → Writes r n text old new → new ≡ text ++ drop n old
wrote (Ok u) n text old new e w = w.1
wrote (Err x) n text old new e w = absurd (eqb-false (number x) 0 (not_zero x) e)

-- a digest has room in 64 bytes
pub digest_room : (n : ℕ) → is_size n ≡ true → buffer_refusal 64 (n / 8) ≡ 0
digest_room n h = let named = size_named n h in subst (λ (k : ℕ). buffer_refusal 64 (k / 8) ≡ 0) named.1 (room_enough named.0)

pub total_is : (k : Contents) (d : Daybook) → Keeps k d → total_of k ≡ total_at d
total_is k d h = ap₂ (λ (x y : ℕ). let t : Total = record { cents = x; count = y } in t) (cents_are k d h) (standing_is k d h)
