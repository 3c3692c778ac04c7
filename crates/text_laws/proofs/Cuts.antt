-- Cutting a text at a byte, and putting the parts together again.
use Rattle.std.proofs.Common.{◌≡◌, ℕ, suc, ◌+◌, Bool, true, false, cond, not, ◌&&◌, eqb, ltb, List, [], ◌∷◌, ◌++◌, length, take, drop, Some, None, Option, sym, refl, ap, ◌∙◌, ⊎_elim, arith}
use Rattle.std.proofs.lemmas.Bool.{lt-ltb, and_parts, and_from, not-true, eq-eqb, eqb-true, cases_Bool}
use Rattle.std.proofs.lemmas.Bool.Decides.{nat_tests}
use Rattle.fields.specs.Cuts.{up_to, cut_at}
use Rattle.text_laws.proofs.Inverts.{some_inj}

-- no byte is b
abbrev pub lacks : ℕ → List ℕ → Bool
lacks b [] = true
lacks b (x ∷ xs) = not (eqb x b) && lacks b xs

pub lacks_append : (b : ℕ) (xs ys : List ℕ) → lacks b xs ≡ true → lacks b ys ≡ true → lacks b (xs ++ ys) ≡ true
lacks_append b [] ys h k = k
lacks_append b (x ∷ xs) ys h k =
    let p = and_parts _ _ h in and_from _ _ p.0 (lacks_append b xs ys p.1 k)

-- one more byte in front
abbrev pub grown : ℕ → Option (List ℕ × List ℕ) → Option (List ℕ × List ℕ)
grown x None = None
grown x (Some p) = Some (x ∷ p.0, p.1)

grown_cond : (x : ℕ) (b : Bool) (p : List ℕ × List ℕ) → grown x (cond b (Some p) None) ≡ cond b (Some (x ∷ p.0, p.1)) None
grown_cond x true p = refl
grown_cond x false p = refl

suc_ltb : (a b : ℕ) → ltb (suc a) (suc b) ≡ ltb a b
suc_ltb a b = grind (arith, nat_tests)

-- a cut, byte by byte
pub cut_cons : (b x : ℕ) (xs : List ℕ) → cut_at b (x ∷ xs) ≡ cond (eqb x b) (Some ([], xs)) (grown x (cut_at b xs))
cut_cons b x xs =
    let n : suc (up_to b xs) + 1 ≡ suc (up_to b xs + 1) = omega arith in
    elim (eqb x b) as (λ e.
    cond (ltb (cond e 0 (suc (up_to b xs))) (length (x ∷ xs))) (Some (take (cond e 0 (suc (up_to b xs))) (x ∷ xs), drop (cond e 0 (suc (up_to b xs)) + 1) (x ∷ xs))) None
    ≡ cond e (Some ([], xs)) (grown x (cut_at b xs))) [
      | true ↦ ap (λ c. cond {A = Option (List ℕ × List ℕ)} c (Some ([], xs)) None) (lt-ltb 0 (suc (length xs)) (omega arith))
      | false ↦ ap (λ c. cond {A = Option (List ℕ × List ℕ)} c (Some (x ∷ take (up_to b xs) xs, drop (suc (up_to b xs) + 1) (x ∷ xs))) None) (suc_ltb (up_to b xs) (length xs))
          ∙ ap (λ m. cond {A = Option (List ℕ × List ℕ)} (ltb (up_to b xs) (length xs)) (Some (x ∷ take (up_to b xs) xs, drop m (x ∷ xs))) None) n
          ∙ sym (grown_cond x (ltb (up_to b xs) (length xs)) (take (up_to b xs) xs, drop (up_to b xs + 1) xs))
    ]

-- a text is cut at the first b
pub cut_forth : (b : ℕ) (xs ys : List ℕ) → lacks b xs ≡ true → cut_at b (xs ++ (b ∷ ys)) ≡ Some (xs, ys)
cut_forth b [] ys h = cut_cons b b ys ∙ ap (λ e. cond e (Some ([], ys)) (grown b (cut_at b ys))) (eq-eqb b b refl)
cut_forth b (x ∷ xs) ys h =
    let p = and_parts _ _ h in
    cut_cons b x (xs ++ (b ∷ ys))
    ∙ ap (λ e. cond e (Some ([], xs ++ (b ∷ ys))) (grown x (cut_at b (xs ++ (b ∷ ys))))) (not-true (eqb x b) p.0)
    ∙ ap (grown x) (cut_forth b xs ys p.1)

grown_back : (b x : ℕ) (xs : List ℕ) (o : Option (List ℕ × List ℕ)) (p : List ℕ × List ℕ) → ((q : List ℕ × List ℕ) → o ≡ Some q → xs ≡ q.0 ++ (b ∷ q.1)) → grown x o ≡ Some p → x ∷ xs ≡ p.0 ++ (b ∷ p.1)
grown_back b x xs None p back h = absurd cc
grown_back b x xs (Some q) p back h = ap (λ t. x ∷ t) (back q refl) ∙ ap (λ (r : List ℕ × List ℕ). r.0 ++ (b ∷ r.1)) (some_inj (x ∷ q.0, q.1) p h)

-- a text that was cut is its parts with the b between them
pub cut_back : (b : ℕ) (t : List ℕ) (p : List ℕ × List ℕ) → cut_at b t ≡ Some p → t ≡ p.0 ++ (b ∷ p.1)
cut_back b [] p h = absurd cc
cut_back b (x ∷ t) p h =
    ⊎_elim
    (λ (e : eqb x b ≡ true).
    let k : Some ([], t) ≡ Some p = sym (ap (λ c. cond c (Some ([], t)) (grown x (cut_at b t))) e) ∙ sym (cut_cons b x t) ∙ h in
    ap (λ y. y ∷ t) (eqb-true x b e) ∙ ap (λ (r : List ℕ × List ℕ). r.0 ++ (b ∷ r.1)) (some_inj ([], t) p k))
    (λ (e : eqb x b ≡ false).
    let k : grown x (cut_at b t) ≡ Some p = sym (ap (λ c. cond c (Some ([], t)) (grown x (cut_at b t))) e) ∙ sym (cut_cons b x t) ∙ h in
    grown_back b x t (cut_at b t) p (cut_back b t) k)
    (cases_Bool (eqb x b))
