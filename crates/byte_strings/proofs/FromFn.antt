-- What `array::from_fn` makes with a closure that a call leaves as it was.
use Rattle.std.proofs.Common.{◌≡◌, ℕ, zero, suc, ◌+◌, ◌<◌, List, map, get_or, sym, ap, ◌∙◌, subst, zero-add, arith}
use Rattle.std.specs.Fn.{Called, Mut}
use Rattle.std.specs.Array.{IsFromFnResult, IsFromFnResultFrom}
use Rattle.std.specs.List.{range_with_len}
use Rattle.std.proofs.lemmas.List.FromFn.{fill_by_all}

-- each call of f at a number below n gives what h does
module _ {F : Type 0} (g : Mut F (ℕ × Unit {0}) ℕ) (f : F) (h : ℕ → ℕ) (n : ℕ)
    (gives : (i r : ℕ) (q : F) → i < n → Called g f (i, tt) r q → (q ≡ f) × (r ≡ h i)) where
  made : (ys : List ℕ) (i m : ℕ) → i + m ≡ n → IsFromFnResultFrom g f ys i m → (k j : ℕ) → k < m → j ≡ i + k → get_or ys j 0 ≡ h j
  made ys i zero e r k j l p = absurd (let no : ⊥ = omega arith in no)
  made ys i (suc m) e r zero j l p =
      let here : j ≡ i = omega arith in
      let x = gives i r.1 r.0 (omega arith) r.3 in
      ap (λ (t : ℕ). get_or ys t 0) here ∙ r.2.1 0 ∙ x.1 ∙ ap h (sym here)
  made ys i (suc m) e r (suc k) j l p =
      let x = gives i r.1 r.0 (omega arith) r.3 in
      made ys (i + 1) m (omega arith) (subst (λ (q : F). IsFromFnResultFrom g q ys (i + 1) m) x.0 r.4) k j (omega arith) (omega arith)

  pub from_fn_is : (ys : List ℕ) → IsFromFnResult g f ys n → ys ≡ map h (range_with_len 0 n)
  from_fn_is ys r = fill_by_all h ys n 0 r.long (λ k l. made ys 0 n (zero-add n) r.each k k l (sym (zero-add k)))
