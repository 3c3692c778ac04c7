-- Where a round takes its elements from, place by place, over any number of fours.
use Rattle.std.proofs.Common.{◌≡◌, ℕ, zero, suc, ◌+◌, ◌-◌, ◌*◌, ◌<◌, ◌≤◌, Bool, true, false, cond, not, T, ltb, List, [], ◌∷◌, length, get_or, sym, refl, ap, ◌∙◌, subst, ap₂, le_of_suc-le-suc, not-suc-le-zero, arith, ltb→lt, nltb→le}
use Rattle.std.proofs.lemmas.List.{get_or_append_left, get_or-append_right}
use Rattle.jh.specs.Round.{sbox, first, second, boxed, paired, substitute, mix, turn, evens, odds, swapped, permute, round}

-- a list of m fours
pub data Fours {A : Type 0} : List A → ℕ → Type 0 where
  none : Fours [] zero
  more : {a b c d : A} {xs : List A} {m : ℕ} → Fours xs m → Fours (a ∷ (b ∷ (c ∷ (d ∷ xs)))) (suc m)

pub fours : {A : Type 0} (m : ℕ) (xs : List A) → length xs ≡ 4 * m → Fours xs m
fours zero [] e = none
fours zero (a ∷ xs) e = absurd (let no : ⊥ = omega arith in no)
fours (suc m) [] e = absurd (let no : ⊥ = omega arith in no)
fours (suc m) (a ∷ []) e = absurd (let no : ⊥ = omega arith in no)
fours (suc m) (a ∷ (b ∷ [])) e = absurd (let no : ⊥ = omega arith in no)
fours (suc m) (a ∷ (b ∷ (c ∷ []))) e = absurd (let no : ⊥ = omega arith in no)
fours (suc m) (a ∷ (b ∷ (c ∷ (d ∷ xs)))) e = more (fours m xs (omega arith))

pub length_fours : {A : Type 0} {xs : List A} {m : ℕ} → Fours xs m → length xs ≡ 4 * m
length_fours none = refl
length_fours (more f) = let e = length_fours f in omega arith

pub boxed_fours : (box : Bool → ℕ → ℕ) {cs : List Bool} {xs : List ℕ} {m : ℕ} → Fours cs m → Fours xs m → Fours (boxed box cs xs) m
boxed_fours box none none = none
boxed_fours box (more f) (more g) = more (boxed_fours box f g)

pub paired_fours : (left right : ℕ → ℕ → ℕ) {xs : List ℕ} {m : ℕ} → Fours xs m → Fours (paired left right xs) m
paired_fours left right none = none
paired_fours left right (more f) = more (paired_fours left right f)

-- ---- the layers, place by place

pub boxed_at : (box : Bool → ℕ → ℕ) (cs : List Bool) (xs : List ℕ) (j : ℕ) → j < length cs → j < length xs
    → get_or (boxed box cs xs) j 0 ≡ box (get_or cs j false) (get_or xs j 0)
boxed_at box [] xs j h g = absurd (not-suc-le-zero h)
boxed_at box (c ∷ cs) [] j h g = absurd (not-suc-le-zero g)
boxed_at box (c ∷ cs) (a ∷ xs) zero h g = refl
boxed_at box (c ∷ cs) (a ∷ xs) (suc j) h g = boxed_at box cs xs j (le_of_suc-le-suc h) (le_of_suc-le-suc g)

module _ (left right : ℕ → ℕ → ℕ) where
  pub paired_even : (xs : List ℕ) (i : ℕ) → 2 * i + 1 < length xs → get_or (paired left right xs) (2 * i) 0 ≡ left (get_or xs (2 * i) 0) (get_or xs (2 * i + 1) 0)
  paired_even [] i h = absurd (not-suc-le-zero h)
  paired_even (a ∷ []) i h = absurd (let no : ⊥ = omega arith in no)
  paired_even (a ∷ (b ∷ xs)) zero h = refl
  paired_even (a ∷ (b ∷ xs)) (suc i) h =
      let e : 2 * suc i ≡ suc (suc (2 * i)) = omega arith in
      let o : 2 * suc i + 1 ≡ suc (suc (2 * i + 1)) = omega arith in
      rw (o, e) (paired_even xs i (omega arith))

  pub paired_odd : (xs : List ℕ) (i : ℕ) → 2 * i + 1 < length xs → get_or (paired left right xs) (2 * i + 1) 0 ≡ right (get_or xs (2 * i) 0) (get_or xs (2 * i + 1) 0)
  paired_odd [] i h = absurd (not-suc-le-zero h)
  paired_odd (a ∷ []) i h = absurd (let no : ⊥ = omega arith in no)
  paired_odd (a ∷ (b ∷ xs)) zero h = refl
  paired_odd (a ∷ (b ∷ xs)) (suc i) h =
      let e : 2 * suc i ≡ suc (suc (2 * i)) = omega arith in
      let o : 2 * suc i + 1 ≡ suc (suc (2 * i + 1)) = omega arith in
      rw (o, e) (paired_odd xs i (omega arith))

-- the first half of a permuted list, and the second
abbrev pub front : List ℕ → List ℕ
front xs = evens (turn xs)

abbrev pub back : List ℕ → List ℕ
back xs = swapped (odds (turn xs))

pub front_long : {xs : List ℕ} {m : ℕ} → Fours xs m → length (front xs) ≡ 2 * m
front_long none = refl
front_long (more f) = let e = front_long f in omega arith

pub back_long : {xs : List ℕ} {m : ℕ} → Fours xs m → length (back xs) ≡ 2 * m
back_long none = refl
back_long (more f) = let e = back_long f in omega arith

pub four_at : (k : ℕ) → 4 * suc k ≡ suc (suc (suc (suc (4 * k))))
four_at k = omega arith

pub two_at : (k : ℕ) → 2 * suc k ≡ suc (suc (2 * k))
two_at k = omega arith

pub front_at : {xs : List ℕ} {m : ℕ} → Fours xs m → (k : ℕ) → k < m
    → (get_or (front xs) (2 * k) 0 ≡ get_or xs (4 * k) 0) × (get_or (front xs) (suc (2 * k)) 0 ≡ get_or xs (suc (suc (suc (4 * k)))) 0)
front_at none k h = absurd (not-suc-le-zero h)
front_at (more f) zero h = (refl, refl)
front_at (more f) (suc k) h =
    let r = front_at f k (le_of_suc-le-suc h) in (simp (four_at, two_at) r.0, simp (four_at, two_at) r.1)

pub back_at : {xs : List ℕ} {m : ℕ} → Fours xs m → (k : ℕ) → k < m
    → (get_or (back xs) (2 * k) 0 ≡ get_or xs (suc (suc (4 * k))) 0) × (get_or (back xs) (suc (2 * k)) 0 ≡ get_or xs (suc (4 * k)) 0)
back_at none k h = absurd (not-suc-le-zero h)
back_at (more f) zero h = (refl, refl)
back_at (more f) (suc k) h =
    let r = back_at f k (le_of_suc-le-suc h) in (simp (four_at, two_at) r.0, simp (four_at, two_at) r.1)

-- ---- a whole round: the pair at place j takes its even element from the pair `left m j`, and its odd one from `right m j`

abbrev pub left : ℕ → ℕ → ℕ
left m j = cond (ltb j m) (2 * j) (2 * (j - m) + 1)

abbrev pub right : ℕ → ℕ → ℕ
right m j = cond (ltb j m) (2 * j + 1) (2 * (j - m))

even_by : {w : List ℕ} {m : ℕ} → Fours w m → (j : ℕ) → j < 2 * m → (b : Bool) → ltb j m ≡ b
    → get_or (permute w) (2 * j) 0 ≡ get_or w (2 * cond b (2 * j) (2 * (j - m) + 1)) 0
even_by {w} {m} f j h true e =
    let lt : j < m = ltb→lt j m (subst T (sym e) tt) in
    let long : length (front w) ≡ 2 * m = front_long f in
    let i : 2 * (2 * j) ≡ 4 * j = omega arith in
    get_or_append_left (front w) (back w) 0 (2 * j) (omega arith) ∙ (front_at f j lt).0 ∙ ap (λ (n : ℕ). get_or w n 0) (sym i)
even_by {w} {m} f j h false e =
    let ge : m ≤ j = nltb→le j m (subst (λ (b : Bool). T (not b)) (sym e) tt) in
    let k : ℕ = j - m in
    let i : 2 * j - 2 * m ≡ 2 * k = omega arith in
    let n : 2 * (2 * k + 1) ≡ suc (suc (4 * k)) = omega arith in
    get_or-append_right (front w) (back w) (2 * m) (2 * j) 0 (front_long f) (omega arith) ∙ ap (λ (x : ℕ). get_or (back w) x 0) i
    ∙ (back_at f k (omega arith)).0 ∙ ap (λ (x : ℕ). get_or w x 0) (sym n)

odd_by : {w : List ℕ} {m : ℕ} → Fours w m → (j : ℕ) → j < 2 * m → (b : Bool) → ltb j m ≡ b
    → get_or (permute w) (2 * j + 1) 0 ≡ get_or w (2 * cond b (2 * j + 1) (2 * (j - m)) + 1) 0
odd_by {w} {m} f j h true e =
    let lt : j < m = ltb→lt j m (subst T (sym e) tt) in
    let long : length (front w) ≡ 2 * m = front_long f in
    let s : 2 * j + 1 ≡ suc (2 * j) = omega arith in
    let i : 2 * (2 * j + 1) + 1 ≡ suc (suc (suc (4 * j))) = omega arith in
    get_or_append_left (front w) (back w) 0 (2 * j + 1) (omega arith) ∙ ap (λ (n : ℕ). get_or (front w) n 0) s
    ∙ (front_at f j lt).1 ∙ ap (λ (n : ℕ). get_or w n 0) (sym i)
odd_by {w} {m} f j h false e =
    let ge : m ≤ j = nltb→le j m (subst (λ (b : Bool). T (not b)) (sym e) tt) in
    let k : ℕ = j - m in
    let i : 2 * j + 1 - 2 * m ≡ suc (2 * k) = omega arith in
    let n : 2 * (2 * k) + 1 ≡ suc (4 * k) = omega arith in
    get_or-append_right (front w) (back w) (2 * m) (2 * j + 1) 0 (front_long f) (omega arith) ∙ ap (λ (x : ℕ). get_or (back w) x 0) i
    ∙ (back_at f k (omega arith)).1 ∙ ap (λ (x : ℕ). get_or w x 0) (sym n)

left_below : (m j : ℕ) → j < 2 * m → left m j < 2 * m
left_below m j h = grind arith

right_below : (m j : ℕ) → j < 2 * m → right m j < 2 * m
right_below m j h = grind arith

-- element p after the S-box layer
abbrev pub box_at : List Bool → List ℕ → ℕ → ℕ
box_at cs xs p = sbox (get_or cs p false) (get_or xs p 0)

module _ {cs : List Bool} {xs : List ℕ} {m : ℕ} (fc : Fours cs m) (fx : Fours xs m) where
  box_of : (p : ℕ) → p < 4 * m → get_or (substitute cs xs) p 0 ≡ box_at cs xs p
  box_of p h = boxed_at sbox cs xs p (let e = length_fours fc in omega arith) (let e = length_fours fx in omega arith)

  mixed : Fours (mix (substitute cs xs)) m
  mixed = paired_fours first second (boxed_fours sbox fc fx)

  pub round_even : (j : ℕ) → j < 2 * m
      → get_or (round cs xs) (2 * j) 0 ≡ first (box_at cs xs (2 * left m j)) (box_at cs xs (2 * left m j + 1))
  round_even j h =
      let i : ℕ = left m j in
      let lt : i < 2 * m = left_below m j h in
      even_by mixed j h (ltb j m) refl
      ∙ paired_even first second (substitute cs xs) i (let e = length_fours (boxed_fours sbox fc fx) in omega arith)
      ∙ ap₂ first (box_of (2 * i) (omega arith)) (box_of (2 * i + 1) (omega arith))

  pub round_odd : (j : ℕ) → j < 2 * m
      → get_or (round cs xs) (2 * j + 1) 0 ≡ second (box_at cs xs (2 * right m j)) (box_at cs xs (2 * right m j + 1))
  round_odd j h =
      let i : ℕ = right m j in
      let lt : i < 2 * m = right_below m j h in
      odd_by mixed j h (ltb j m) refl
      ∙ paired_odd first second (substitute cs xs) i (let e = length_fours (boxed_fours sbox fc fx) in omega arith)
      ∙ ap₂ second (box_of (2 * i) (omega arith)) (box_of (2 * i + 1) (omega arith))
