-- A list that is written over by another, the first n places so far.
use Rattle.std.proofs.Common.{◌≡◌, ℕ, ◌+◌, ◌-◌, ◌<◌, ◌≤◌, List, [], ◌∷◌, ◌++◌, length, get_or, take, drop, set, sym, ap, ◌∙◌, ap₂, arith}
use Rattle.std.proofs.lemmas.List.{take_more, drop_more, set_at, get_or-append_right, length-take-le, get_or-drop, take_all, drop_all, append-nil, append_assoc}

abbrev pub over : ℕ → List ℕ → List ℕ → List ℕ
over n s d = take n s ++ drop n d

pub over_all : (n : ℕ) (s d : List ℕ) → length s ≡ n → length d ≡ n → over n s d ≡ s
over_all n s d e f = ap₂ ◌++◌ (take_all n s (omega arith)) (drop_all n d (omega arith)) ∙ append-nil s

-- what is not yet written over
pub over_at : (n : ℕ) (s d : List ℕ) (k : ℕ) → length s ≡ length d → n ≤ k → k < length d → get_or (over n s d) k 0 ≡ get_or d k 0
over_at n s d k e l h =
    let b : n ≤ length s = omega arith in
    let i : n + (k - n) ≡ k = omega arith in
    get_or-append_right (take n s) (drop n d) n k 0 (length-take-le n s b) l ∙ get_or-drop n d (k - n) 0 ∙ ap (λ (x : ℕ). get_or d x 0) i

-- one place more
pub over_more : (n : ℕ) (s d : List ℕ) → length s ≡ length d → n < length d → set (over n s d) n (get_or s n 0) ≡ over (n + 1) s d
over_more n s d e h =
    let b : n ≤ length s = omega arith in
    ap (λ (ys : List ℕ). set (take n s ++ ys) n (get_or s n 0)) (drop_more d n 0 h)
    ∙ set_at (take n s) (get_or d n 0) (drop (n + 1) d) (get_or s n 0) n (length-take-le n s b)
    ∙ sym (append_assoc (take n s) (get_or s n 0 ∷ []) (drop (n + 1) d))
    ∙ ap (λ (ys : List ℕ). ys ++ drop (n + 1) d) (sym (take_more s n 0 (omega arith)))
