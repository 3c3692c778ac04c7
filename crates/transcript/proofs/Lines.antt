-- The requests of a text, a line at a time.
use Rattle.std.proofs.Common.{◌≡◌, ℕ, suc, ◌+◌, ◌<◌, ◌≤◌, true, false, cond, eqb, List, [], ◌∷◌, ◌++◌, length, take, drop, Some, None, Option, sym, ap, ◌∙◌, subst, ⊎_elim, append_assoc, append-nil, arith, length-drop}
use Rattle.std.proofs.lemmas.Bool.{lt-ltb, le-ltb, eq-eqb, ne_eqb, cases_lt}
use Rattle.fields.specs.Cuts.{up_to, cut_at}
use Rattle.requests.specs.declared.request.LineRequest.{LineRequest}
use Rattle.requests.specs.Requests.{request_of}
use Rattle.transcript.specs.Output.{requests_on, requests}

-- a text without a line feed
abbrev last_part : List ℕ → List (Option LineRequest)
last_part l = cond (eqb (length l) 0) [] (None ∷ [])

line_first : (l xs : List ℕ) → up_to 10 xs < length xs → requests_on l xs ≡ request_of (l ++ take (up_to 10 xs) xs) ∷ requests_on [] (drop (up_to 10 xs + 1) xs)
line_first l [] h = absurd (omega (arith, h))
line_first l (x ∷ xs) h =
    (elim (eqb x 10) as (λ b. cond b 0 (suc (up_to 10 xs)) < suc (length xs)
    → cond b (request_of l ∷ requests_on [] xs) (requests_on (l ++ x ∷ []) xs)
    ≡ request_of (l ++ take (cond b 0 (suc (up_to 10 xs))) (x ∷ xs)) ∷ requests_on [] (drop (cond b 0 (suc (up_to 10 xs)) + 1) (x ∷ xs))) [
      | true ↦ λ _. ap (λ t. request_of t ∷ requests_on [] xs) (sym (append-nil l))
      | false ↦ λ lt.
          let n : suc (up_to 10 xs) + 1 ≡ suc (up_to 10 xs + 1) = omega arith in
          line_first (l ++ x ∷ []) xs (omega (arith, lt))
          ∙ ap (λ t. request_of t ∷ requests_on [] (drop (up_to 10 xs + 1) xs)) (append_assoc l (x ∷ []) (take (up_to 10 xs) xs))
          ∙ ap (λ k. request_of (l ++ x ∷ take (up_to 10 xs) xs) ∷ requests_on [] (drop k (x ∷ xs))) (sym n)
    ]) h

line_none : (l xs : List ℕ) → length xs ≤ up_to 10 xs → requests_on l xs ≡ last_part (l ++ xs)
line_none l [] h = ap last_part (sym (append-nil l))
line_none l (x ∷ xs) h =
    (elim (eqb x 10) as (λ b. suc (length xs) ≤ cond b 0 (suc (up_to 10 xs))
    → cond b (request_of l ∷ requests_on [] xs) (requests_on (l ++ x ∷ []) xs) ≡ last_part (l ++ x ∷ xs)) [
      | true ↦ λ le. absurd (omega (arith, le))
      | false ↦ λ le. line_none (l ++ x ∷ []) xs (omega (arith, le)) ∙ ap last_part (append_assoc l (x ∷ []) xs)
    ]) h

-- what a cut at the first line feed says
abbrev by_cut : List ℕ → Option (List ℕ × List ℕ) → List (Option LineRequest)
by_cut t None = last_part t
by_cut t (Some p) = request_of p.0 ∷ requests p.1

requests_cut : (t : List ℕ) → requests t ≡ by_cut t (cut_at 10 t)
requests_cut t =
    let found : Option (List ℕ × List ℕ) = Some (take (up_to 10 t) t, drop (up_to 10 t + 1) t) in
    ⊎_elim
    (λ (h : up_to 10 t < length t). line_first [] t h ∙ sym (ap (λ b. by_cut t (cond b found None)) (lt-ltb (up_to 10 t) (length t) h)))
    (λ (h : length t ≤ up_to 10 t). line_none [] t h ∙ sym (ap (λ b. by_cut t (cond b found None)) (le-ltb (up_to 10 t) (length t) h)))
    (cases_lt (up_to 10 t) (length t))

pub first_request : (t l r : List ℕ) → cut_at 10 t ≡ Some (l, r) → requests t ≡ request_of l ∷ requests r
first_request t l r e = requests_cut t ∙ ap (by_cut t) e

pub no_request : (t : List ℕ) → cut_at 10 t ≡ None → length t ≡ 0 → requests t ≡ []
no_request t e z = requests_cut t ∙ ap (by_cut t) e ∙ ap (λ b. cond b [] (None ∷ [])) (eq-eqb (length t) 0 z)

pub part_request : (t : List ℕ) → cut_at 10 t ≡ None → (length t ≡ 0 → ⊥) → requests t ≡ None ∷ []
part_request t e z = requests_cut t ∙ ap (by_cut t) e ∙ ap (λ b. cond b [] (None ∷ [])) (ne_eqb (length t) 0 z)

abbrev Shorter : List ℕ → Option (List ℕ × List ℕ) → Type 0
Shorter t None = Unit {0}
Shorter t (Some p) = length p.1 < length t

cut_shorter : (t : List ℕ) → Shorter t (cut_at 10 t)
cut_shorter t =
    let found : Option (List ℕ × List ℕ) = Some (take (up_to 10 t) t, drop (up_to 10 t + 1) t) in
    ⊎_elim
    (λ (h : up_to 10 t < length t). subst (λ b. Shorter t (cond b found None)) (sym (lt-ltb (up_to 10 t) (length t) h)) (let n = length-drop (up_to 10 t + 1) t in omega (arith, n, h)))
    (λ (h : length t ≤ up_to 10 t). subst (λ b. Shorter t (cond b found None)) (sym (le-ltb (up_to 10 t) (length t) h)) tt)
    (cases_lt (up_to 10 t) (length t))

pub after_shorter : (t l r : List ℕ) → cut_at 10 t ≡ Some (l, r) → length r < length t
after_shorter t l r e = subst (Shorter t) e (cut_shorter t)
