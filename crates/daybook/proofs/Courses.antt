-- A roll that came by a course, one call further.
use Rattle.std.proofs.Common.{◌≡◌, ℕ, ◌<◌, List, [], ◌∷◌, ◌++◌, length, IfOk, Ok, Err, fold, Result, sym, refl, ap, ◌∙◌, subst, arith}
use Rattle.std.proofs.lemmas.List.Sums.{fold_push}
use Rattle.std.proofs.ByRecursion.{All-take, All-drop}
use Rattle.std.proofs.lemmas.Bool.Decides.{nat_tests}
use Rattle.byte_strings.specs.Bytes.{Bytes}
use Rattle.press.specs.Meaning.{Meaning}
use Rattle.passages.specs.Rows.{without, onward, later}
use Rattle.refusals.specs.declared.refusal.Refusal.{Refusal}
use Rattle.refusals.proofs.Numbers.{positive}
use Rattle.refusals.specs.Refusals.{number, outcome, ship_refusal}
use Rattle.daybook.specs.Contents.{standing_count, refused_pass, refused_cancel, refused_ship, refused_save}
use Rattle.daybook.specs.States.{State, unwound, after_open, after_pass, after_cancel, after_ship, after_close, after_reopen, Leaves}
use Rattle.daybook.specs.Daybook.{Daybook, Call, archived, waiting, unwritten, refusal, noted, next, daybook, seal_of, closed_seal_of}
use Rattle.daybook.specs.Daybook.Call.{passing, cancelling, shipping, closing, reopening, saving, resuming}
use Rattle.daybook.specs.Course.{Keeps, Follows, Came, CameClosed, GoesOn}
use Rattle.daybook.proofs.Chains.{folded_parts, folded_append, folded_chain, cancelled_seal}
use Rattle.daybook.proofs.Notes.{accepted, refused, pass_refused, cancel_refused, ship_refused, save_refused, pass_keeps, cancel_keeps, ship_keeps, standing_is}

numbered : (e : Refusal) → number e ≡ 0 → ⊥
numbered e h = omega (arith, positive e)

some_waits : (room w : ℕ) → 0 ≡ ship_refusal room w → 0 < w
some_waits room w e = grind (arith, nat_tests)

module _ {P : Type 0} (means : P → Meaning) where
  -- the roll follows the daybook d
  abbrev At : P → State P → Daybook → Type 0
  At p s d = Follows (means p) p (seal_of (means p) d) s d

  -- the daybook with one call more
  onward_by : (p : P) (size : ℕ) (calls : List Call) (c : Call) (s : State P) → At p s (next (daybook size calls) c) → Came means p s size (calls ++ c ∷ [])
  onward_by p size calls c s h = subst (At p s) (sym (fold_push next (unwritten size) calls c)) h

  pub newly : (p : P) (size : ℕ) → Bytes 128 ((means p).opens size) → Came means p (after_open means p size) size []
  newly p size h =
      record {
        press = refl;
        sealed = refl;
        keeps = record { size = refl; window = refl; shipped = refl; last = refl; cents = refl; blocks = tt; within = omega arith };
        start = h;
      }

  -- a call that is answered as the daybook does, and that does to the roll what the daybook notes
  goes : {X : Type 0} (c : Call) (s : State P) (r : Result X Refusal) (s' t : State P)
      → ((d : Daybook) → Keeps s.contents d → outcome r ≡ refusal d c)
      → IfOk r (λ _. (p : P) (d : Daybook) → At p s d → At p t (noted d c))
      → Leaves r s s' t → GoesOn means s c (outcome r) s'
  goes c s (Ok u) s' t answers does e p size calls h =
      let d = daybook size calls in
      let a = answers d h.keeps in
      (a, onward_by p size calls c s' (subst (λ x. At p x (next d c)) (sym e) (subst (At p t) (sym (accepted d c (sym a))) (does p d h))))
  goes c s (Err x) s' t answers does e p size calls h =
      let d = daybook size calls in
      let a = answers d h.keeps in
      let same : next d c ≡ d = refused d c (λ z. numbered x (a ∙ z)) in
      (a, onward_by p size calls c s' (subst (λ y. At p y (next d c)) (sym e) (subst (At p s) (sym same) h)))

  pub pass_goes : (m : List ℕ) (s : State P) (r : Result (Unit {0}) Refusal) (s' : State P)
      → outcome r ≡ refused_pass s.contents m → IfOk r (λ _. Bytes 64 m) → Leaves r s s' (after_pass means s m)
      → GoesOn means s (passing m) (outcome r) s'
  pass_goes m s (Err e) s' a wide l =
      goes {X = Unit {0}} (passing m) s (Err e) s' (after_pass means s m) (λ d h. a ∙ pass_refused s.contents d h m) tt l
  pass_goes m s (Ok u) s' a wide l =
      goes {X = Unit {0}} (passing m) s (Ok u) s' (after_pass means s m) (λ d h. a ∙ pass_refused s.contents d h m)
      (λ p d h.
      record {
        press = h.press;
        sealed =
            ap (λ (q : P). (means q).steps s.seal m) h.press ∙ ap (λ (x : List ℕ). (means p).steps x m) h.sealed
            ∙ sym (fold_push (means p).steps ((means p).opens d.size) d.standing m);
        keeps = pass_keeps s.contents d h.keeps m wide;
        start = h.start;
      }) l

  pub ship_goes : (b : ℕ) (s : State P) (r : Result (Unit {0}) Refusal) (s' : State P)
      → outcome r ≡ refused_ship s.contents b → Leaves r s s' (after_ship s) → GoesOn means s (shipping b) (outcome r) s'
  ship_goes b s (Err e) s' a l =
      goes {X = Unit {0}} (shipping b) s (Err e) s' (after_ship s) (λ d h. a ∙ ship_refused s.contents d h b) tt l
  ship_goes b s (Ok u) s' a l =
      goes {X = Unit {0}} (shipping b) s (Ok u) s' (after_ship s) (λ d h. a ∙ ship_refused s.contents d h b)
      (λ p d h.
      record {
        press = h.press;
        sealed = h.sealed;
        keeps = ship_keeps s.contents d h.keeps b (some_waits b (length s.contents.window) a);
        start = h.start;
      }) l

  pub save_goes : {X : Type 0} (b : ℕ) (s : State P) (r : Result X Refusal)
      → outcome r ≡ refused_save s.contents b → GoesOn means s (saving b) (outcome r) s
  save_goes {X = X} b s (Ok u) a = goes {X = X} (saving b) s (Ok u) s s (λ d h. a ∙ save_refused s.contents d h b) (λ p d h. h) refl
  save_goes {X = X} b s (Err e) a = goes {X = X} (saving b) s (Err e) s s (λ d h. a ∙ save_refused s.contents d h b) tt refl

  pub resume_goes : (p : P) (size : ℕ) (calls : List Call) (s : State P) → Came means p s size calls → Came means p s size (calls ++ resuming ∷ [])
  resume_goes p size calls s h = onward_by p size calls resuming s h

  module _ (chains : (p : P) (c m : List ℕ) → Bytes 128 c → Bytes 64 m → Bytes 128 ((means p).steps c m)) (backs : P → List ℕ → List ℕ → List ℕ)
      (undoes : (p : P) (c m : List ℕ) → Bytes 128 c → Bytes 64 m → backs p ((means p).steps c m) m ≡ c) where
    cancel_noted : (n : ℕ) (s : State P) (p : P) (d : Daybook) → At p s d → At p (after_cancel means backs s n) (noted d (cancelling n))
    cancel_noted n s p d h =
        let w = waiting d in
        let c0 = fold (means p).steps ((means p).opens d.size) (archived d) in
        let blocks = h.keeps.blocks in
        let start = folded_chain (means p).steps (chains p) ((means p).opens d.size) (archived d) h.start (All-take (Bytes 64) d.shipped d.standing blocks) in
        let wide = All-drop (Bytes 64) d.shipped d.standing blocks in
        record {
          press = h.press;
          sealed =
              ap (λ (q : P). fold (means q).steps (unwound (backs q) s.seal (onward n s.contents.window)) (later n s.contents.window)) h.press
              ∙ ap (λ (v : List (List ℕ)). fold (means p).steps (unwound (backs p) s.seal (onward n v)) (later n v)) h.keeps.window
              ∙ ap (λ (x : List ℕ). fold (means p).steps (unwound (backs p) x (onward n w)) (later n w)) (h.sealed ∙ folded_parts (means p).steps ((means p).opens d.size) d.standing d.shipped)
              ∙ cancelled_seal (means p).steps (chains p) (backs p) (undoes p) n c0 w start wide
              ∙ sym (folded_append (means p).steps ((means p).opens d.size) (archived d) (without n w));
          keeps = cancel_keeps s.contents d h.keeps n;
          start = h.start;
        }

    pub cancel_goes : (n : ℕ) (s : State P) (r : Result (Unit {0}) Refusal) (s' : State P)
        → outcome r ≡ refused_cancel s.contents n → Leaves r s s' (after_cancel means backs s n)
        → GoesOn means s (cancelling n) (outcome r) s'
    cancel_goes n s (Err e) s' a l =
        goes {X = Unit {0}} (cancelling n) s (Err e) s' (after_cancel means backs s n) (λ d h. a ∙ cancel_refused s.contents d h n) tt l
    cancel_goes n s (Ok u) s' a l =
        goes {X = Unit {0}} (cancelling n) s (Ok u) s' (after_cancel means backs s n) (λ d h. a ∙ cancel_refused s.contents d h n) (cancel_noted n s) l

    pub reopen_goes : (p : P) (size : ℕ) (calls : List Call) (s s' : State P)
        → Bytes 64 ((means s.press).ends (standing_count s.contents)) → s' ≡ after_reopen means backs s
        → CameClosed means p s size calls → Came means p s' size (calls ++ reopening ∷ [])
    reopen_goes p size calls s s' wide e h =
        let d = daybook size calls in
        let n = standing_is s.contents d h.keeps in
        let b = seal_of (means p) d in
        let last : (means s.press).ends (standing_count s.contents) ≡ (means p).ends (length d.standing) =
        ap (λ (q : P). (means q).ends (standing_count s.contents)) h.press ∙ ap (means p).ends n in
        subst (λ x. Came means p x size (calls ++ reopening ∷ [])) (sym e)
        (onward_by p size calls reopening (after_reopen means backs s)
        (record {
          press = h.press;
          sealed =
              ap (λ (q : P). backs q s.seal ((means s.press).ends (standing_count s.contents))) h.press
              ∙ ap (backs p s.seal) last
              ∙ ap (λ (x : List ℕ). backs p x ((means p).ends (length d.standing))) h.sealed
              ∙ undoes p b ((means p).ends (length d.standing)) (folded_chain (means p).steps (chains p) ((means p).opens d.size) d.standing h.start h.keeps.blocks) (subst (Bytes 64) last wide);
          keeps = h.keeps;
          start = h.start;
        }))

  pub close_goes : (p : P) (size : ℕ) (calls : List Call) (s s' : State P) → s' ≡ after_close means s
      → Came means p s size calls → CameClosed means p s' size (calls ++ closing ∷ [])
  close_goes p size calls s s' e h =
      let d = daybook size calls in
      let n = standing_is s.contents d h.keeps in
      subst (λ x. CameClosed means p x size (calls ++ closing ∷ [])) (sym e)
      (subst (λ x. Follows (means p) p (closed_seal_of (means p) x) (after_close means s) x) (sym (fold_push next (unwritten size) calls closing))
      (record {
        press = h.press;
        sealed =
            ap (λ (q : P). (means q).steps s.seal ((means q).ends (standing_count s.contents))) h.press
            ∙ ap (λ (x : List ℕ). (means p).steps x ((means p).ends (standing_count s.contents))) h.sealed
            ∙ ap (λ (j : ℕ). (means p).steps (seal_of (means p) d) ((means p).ends j)) n;
        keeps = h.keeps;
        start = h.start;
      }))
