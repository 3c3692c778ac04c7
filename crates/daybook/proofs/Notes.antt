-- The contents of a roll and the daybook, call by call.
use Rattle.std.proofs.Common.{◌≡◌, ℕ, ◌+◌, ◌<◌, true, false, cond, eqb, List, [], ◌∷◌, ◌++◌, length, get_or, take, drop, fold, sum_by, sym, refl, ap, ◌∙◌, arith}
use Rattle.std.specs.List.{AllByRecursion}
use Rattle.std.proofs.lemmas.Bool.{eq-eqb, ne_eqb}
use Rattle.std.proofs.lemmas.List.{take-append-le, drop-append-le, take_at, drop_at, length-take-le, length-drop, length-append, take_more, get_or-drop, drop-drop}
use Rattle.std.proofs.lemmas.List.Sums.{fold_push, sum_by_push, sum_by-take-drop}
use Rattle.std.proofs.ByRecursion.{All-push, All-append, All-take, All-drop}
use Rattle.byte_strings.specs.Bytes.{Bytes}
use Rattle.refusals.specs.Refusals.{buffer_refusal, pass_refusal, cancel_refusal, ship_refusal}
use Rattle.passages.specs.Fields.{serial_of, charged_of, formed, priced}
use Rattle.passages.specs.Rows.{last_serial, has, without}
use Rattle.daybook.specs.Contents.{Contents, refused_pass, refused_cancel, refused_ship, refused_save, contents_length, text_length, passed, cancelled, oldest, sent, standing_count, charged_cents, top_serial}
use Rattle.daybook.specs.Daybook.{Daybook, Call, archived, waiting, next_out, cents_of, saved_length, refusal, noted, next}
use Rattle.daybook.specs.Daybook.Call.{passing, cancelling, shipping, closing, reopening, saving, resuming}
use Rattle.daybook.specs.Course.{Keeps}
use Rattle.daybook.proofs.Chains.{folded_parts}

pub accepted : (d : Daybook) (c : Call) → refusal d c ≡ 0 → next d c ≡ noted d c
accepted d c e = ap (λ b. cond b (noted d c) d) (eq-eqb (refusal d c) 0 e)

pub refused : (d : Daybook) (c : Call) → (refusal d c ≡ 0 → ⊥) → next d c ≡ d
refused d c h = ap (λ b. cond b (noted d c) d) (ne_eqb (refusal d c) 0 h)

noted_size : (d : Daybook) (c : Call) → (noted d c).size ≡ d.size
noted_size d (passing m) = refl
noted_size d (cancelling n) = refl
noted_size d (shipping room) = refl
noted_size d closing = refl
noted_size d reopening = refl
noted_size d (saving room) = refl
noted_size d resuming = refl

next_size : (d : Daybook) (c : Call) → (next d c).size ≡ d.size
next_size d c = elim (eqb (refusal d c) 0) as (λ b. (cond b (noted d c) d).size ≡ d.size) [ true ↦ noted_size d c | false ↦ refl ]

-- a course keeps the size
pub size_kept : (d : Daybook) (calls : List Call) → (fold next d calls).size ≡ d.size
size_kept d [] = refl
size_kept d (c ∷ calls) = size_kept (next d c) calls ∙ next_size d c

all_without : (P : List ℕ → Type 0) (n : ℕ) (ms : List (List ℕ)) → AllByRecursion P ms → AllByRecursion P (without n ms)
all_without P n [] h = h
all_without P n (m ∷ ms) h =
    elim (eqb (serial_of m) n) as (λ b. AllByRecursion P (cond b ms (m ∷ without n ms))) [ true ↦ h.1 | false ↦ (h.0, all_without P n ms h.1) ]

module _ (k : Contents) (d : Daybook) (h : Keeps k d) where
  length_archived : length (archived d) ≡ d.shipped
  length_archived = length-take-le d.shipped d.standing h.within

  length_window : length k.window ≡ length (waiting d)
  length_window = ap length h.window

  pub standing_is : standing_count k ≡ length d.standing
  standing_is =
      let n = length-drop d.shipped d.standing in
      omega (arith, h.within, h.shipped, length_window, n)

  top_is : top_serial k ≡ last_serial 0 d.standing
  top_is =
      ap (λ n. last_serial n k.window) h.last
      ∙ ap (last_serial (last_serial 0 (archived d))) h.window
      ∙ sym (folded_parts (λ _ m. serial_of m) 0 d.standing d.shipped)

  pub cents_are : charged_cents k ≡ cents_of d
  cents_are =
      let a = h.cents in
      let b = ap (sum_by charged_of) h.window in
      let s = sum_by-take-drop charged_of d.standing d.shipped in
      omega arith

  pub pass_refused : (m : List ℕ) → refused_pass k m ≡ refusal d (passing m)
  pass_refused m =
      let f = λ (a b c : ℕ). pass_refusal (length m) a b c (serial_of m) (formed m) (priced m) in
      ap (λ n. f n (standing_count k) (top_serial k)) length_window
      ∙ ap (λ n. f (length (waiting d)) n (top_serial k)) standing_is
      ∙ ap (f (length (waiting d)) (length d.standing)) top_is

  pub cancel_refused : (n : ℕ) → refused_cancel k n ≡ refusal d (cancelling n)
  cancel_refused n =
      ap (λ s. cancel_refusal s k.last n (has n k.window)) h.shipped
      ∙ ap (λ s. cancel_refusal d.shipped s n (has n k.window)) h.last
      ∙ ap (λ w. cancel_refusal d.shipped (last_serial 0 (archived d)) n (has n w)) h.window

  pub ship_refused : (b : ℕ) → refused_ship k b ≡ refusal d (shipping b)
  ship_refused b = ap (ship_refusal b) length_window

  pub length_is : contents_length k ≡ saved_length d
  length_is =
      ap (λ n. text_length n k.shipped k.last k.cents (length k.window)) h.size
      ∙ ap (λ n. text_length d.size n k.last k.cents (length k.window)) h.shipped
      ∙ ap (λ n. text_length d.size d.shipped n k.cents (length k.window)) h.last
      ∙ ap (λ n. text_length d.size d.shipped (last_serial 0 (archived d)) n (length k.window)) h.cents
      ∙ ap (text_length d.size d.shipped (last_serial 0 (archived d)) (sum_by charged_of (archived d))) length_window

  pub save_refused : (b : ℕ) → refused_save k b ≡ refusal d (saving b)
  save_refused b = ap (buffer_refusal b) length_is

  pub pass_keeps : (m : List ℕ) → Bytes 64 m → Keeps (passed k m) (noted d (passing m))
  pass_keeps m hm =
      let t = take-append-le d.shipped d.standing (m ∷ []) h.within in
      record {
        size = h.size;
        window = ap (λ w. w ++ m ∷ []) h.window ∙ sym (drop-append-le d.shipped d.standing (m ∷ []) h.within);
        shipped = h.shipped;
        last = h.last ∙ ap (last_serial 0) (sym t);
        cents = h.cents ∙ ap (sum_by charged_of) (sym t);
        blocks = All-push (Bytes 64) d.standing m h.blocks hm;
        within = simp length-append (omega (arith, h.within));
      }

  pub cancel_keeps : (n : ℕ) → Keeps (cancelled k n) (noted d (cancelling n))
  cancel_keeps n =
      let w = without n (waiting d) in
      let t = take_at (archived d) w d.shipped length_archived in
      record {
        size = h.size;
        window = ap (without n) h.window ∙ sym (drop_at (archived d) w d.shipped length_archived);
        shipped = h.shipped;
        last = h.last ∙ ap (last_serial 0) (sym t);
        cents = h.cents ∙ ap (sum_by charged_of) (sym t);
        blocks =
            All-append (Bytes 64) (archived d) w (All-take (Bytes 64) d.shipped d.standing h.blocks)
            (all_without (Bytes 64) n (waiting d) (All-drop (Bytes 64) d.shipped d.standing h.blocks));
        within = simp length-append (omega (arith, length_archived));
      }

  -- the passage that is shipped next
  pub oldest_is : oldest k ≡ next_out d
  oldest_is =
      let z : d.shipped + 0 ≡ d.shipped = omega arith in
      ap (λ w. get_or w 0 []) h.window ∙ get_or-drop d.shipped d.standing 0 [] ∙ ap (λ i. get_or d.standing i []) z

  pub ship_keeps : (b : ℕ) → 0 < length k.window → Keeps (sent k) (noted d (shipping b))
  ship_keeps b l =
      let m = oldest k in
      let n = length-drop d.shipped d.standing in
      let lt : d.shipped < length d.standing = omega (arith, length_window) in
      let t : take (d.shipped + 1) d.standing ≡ archived d ++ m ∷ [] = take_more d.standing d.shipped [] lt ∙ ap (λ x. archived d ++ x ∷ []) (sym oldest_is) in
      record {
        size = h.size;
        window = ap (drop 1) h.window ∙ drop-drop 1 d.shipped d.standing;
        shipped = ap (λ s. s + 1) h.shipped;
        last = sym (ap (last_serial 0) t ∙ fold_push (λ _ x. serial_of x) 0 (archived d) m);
        cents = ap (λ s. s + charged_of m) h.cents ∙ sym (ap (sum_by charged_of) t ∙ sum_by_push charged_of (archived d) m);
        blocks = h.blocks;
        within = omega arith;
      }
