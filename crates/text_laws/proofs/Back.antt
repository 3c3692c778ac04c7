-- A text that is accepted is the text of a valid roll, which is what was read.
use Rattle.std.proofs.Common.{◌≡◌, ℕ, zero, suc, ◌+◌, ◌≤◌, true, eqb, List, [], ◌∷◌, ◌++◌, length, Ok, codes, decimal, sym, refl, ap, ◌∙◌, subst, append_assoc, arith}
use Rattle.std.specs.List.{flat_map, AllByRecursion}
use Rattle.std.proofs.lemmas.List.{append-nil, nil_from_length}
use Rattle.std.proofs.lemmas.Bool.{and_from, eqb-true}
use Rattle.byte_strings.specs.Bytes.{Bytes}
use Rattle.passages.specs.Fields.{fits_after, serial_of}
use Rattle.passages.specs.Rows.{in_order}
use Rattle.fields.specs.Hex.{hex_of}
use Rattle.fields.specs.Faults.{number_at, bytes_at}
use Rattle.text_laws.specs.Lines.{LineFields, roll_line, chain_line, pass_line, first_line}
use Rattle.text_laws.specs.Values.{Numbers, are_valid, numbers_of, chain_of, passage_of}
use Rattle.text_laws.specs.Saved.{saved, line_at, passages}
use Rattle.text_laws.specs.Written.{hex_line, pass_text, numbers_text, text_telling, text_of}
use Rattle.text_laws.specs.Valid.{Valid}
use Rattle.text_laws.specs.Laws.{ReadSaves}
use Rattle.text_laws.proofs.Fields.{number_back, bytes_back}
use Rattle.text_laws.proofs.Inverts.{ok_inj, then_ok, cond_ok}
use Rattle.text_laws.proofs.Lines.{line_text, at_back}
use Rattle.text_laws.proofs.Numbers.{ValidNumbers, valid_numbers}

roll_text : (a b c d e : List ℕ) (n : Numbers) (rest : List ℕ) → a ≡ decimal n.size → b ≡ decimal n.shipped → c ≡ decimal n.last → d ≡ decimal n.cents → e ≡ decimal n.window
    → line_text (roll_line a b c d e) ++ (10 ∷ rest) ≡ numbers_text n ++ rest
roll_text a b c d e n rest n1 n2 n3 n4 n5 = simp (n1, n2, n3, n4, n5, append_assoc)

numbers_back : (k : ℕ) (l : LineFields) (n : Numbers) (rest : List ℕ) → numbers_of k l ≡ Ok n → (line_text l ++ (10 ∷ rest) ≡ numbers_text n ++ rest) × (are_valid n ≡ true)
numbers_back k (roll_line a b c d e) n rest r =
    let x1 = then_ok (number_at k a) _ n r in
    let x2 = then_ok (number_at k b) _ n x1.2 in
    let x3 = then_ok (number_at k c) _ n x2.2 in
    let x4 = then_ok (number_at k d) _ n x3.2 in
    let x5 = then_ok (number_at k e) _ n x4.2 in
    let m : Numbers = record { size = x1.0; shipped = x2.0; last = x3.0; cents = x4.0; window = x5.0 } in
    let y = cond_ok (are_valid m) m n (15, k) x5.2 in
    let t = roll_text a b c d e m rest (number_back k a x1.0 x1.1) (number_back k b x2.0 x2.1) (number_back k c x3.0 x3.1) (number_back k d x4.0 x4.1) (number_back k e x5.0 x5.1) in
    (t ∙ ap (λ v. numbers_text v ++ rest) y.1, sym (ap are_valid y.1) ∙ y.0)
numbers_back k (chain_line h) n rest r = absurd cc
numbers_back k (pass_line h) n rest r = absurd cc

chain_back : (k : ℕ) (l : LineFields) (m rest : List ℕ) → chain_of k l ≡ Ok m → (line_text l ++ (10 ∷ rest) ≡ hex_line (codes "chain") m ++ rest) × Bytes 128 m
chain_back k (roll_line a b c d e) m rest r = absurd cc
chain_back k (chain_line h) m rest r =
    let x = bytes_back k 128 h m r in
    (ap (λ u. (codes "chain" ++ (9 ∷ u)) ++ (10 ∷ rest)) x.0 ∙ ap (λ u. codes "chain" ++ (9 ∷ u)) (sym (append_assoc (hex_of m) (10 ∷ []) rest)), x.1)
chain_back k (pass_line h) m rest r = absurd cc

passage_back : (k before : ℕ) (l : LineFields) (m rest : List ℕ) → passage_of k before l ≡ Ok m → (line_text l ++ (10 ∷ rest) ≡ pass_text m ++ rest) × Bytes 64 m × (fits_after before m ≡ true)
passage_back k before (roll_line a b c d e) m rest r = absurd cc
passage_back k before (chain_line h) m rest r = absurd cc
passage_back k before (pass_line h) m rest r =
    let y = then_ok (bytes_at k 64 h) _ m r in
    let z = cond_ok (fits_after before y.0) y.0 m (15, k) y.2 in
    let x = bytes_back k 64 h y.0 y.1 in (
      ap (λ u. (codes "pass" ++ (9 ∷ u)) ++ (10 ∷ rest)) (x.0 ∙ ap hex_of z.1) ∙ ap (λ u. codes "pass" ++ (9 ∷ u)) (sym (append_assoc (hex_of m) (10 ∷ []) rest)),
      subst (Bytes 64) z.1 x.1,
      sym (ap (fits_after before) z.1) ∙ z.0,
    )

-- the first line of a text, where it was read
pub first_numbers : (k : ℕ) (t : List ℕ) (p : Numbers × List ℕ) → line_at k (numbers_of k) (first_line t) ≡ Ok p → (t ≡ numbers_text p.0 ++ p.1) × ValidNumbers p.0
first_numbers k t p h =
    let l = at_back k (numbers_of k) t p h in
    let x = numbers_back k l.0 p.0 p.1 l.2 in
    (l.1 ∙ x.0, valid_numbers p.0 x.1)

pub first_chain : (k : ℕ) (t : List ℕ) (p : List ℕ × List ℕ) → line_at k (chain_of k) (first_line t) ≡ Ok p → (t ≡ hex_line (codes "chain") p.0 ++ p.1) × Bytes 128 p.0
first_chain k t p h =
    let l = at_back k (chain_of k) t p h in
    let x = chain_back k l.0 p.0 p.1 l.2 in
    (l.1 ∙ x.0, x.1)

pub first_passage : (k before : ℕ) (t : List ℕ) (p : List ℕ × List ℕ) → line_at k (passage_of k before) (first_line t) ≡ Ok p → (t ≡ pass_text p.0 ++ p.1) × Bytes 64 p.0 × (fits_after before p.0 ≡ true)
first_passage k before t p h =
    let l = at_back k (passage_of k before) t p h in
    let x = passage_back k before l.0 p.0 p.1 l.2 in
    (l.1 ∙ x.0, x.1, x.2)

passages_back : (n k before : ℕ) (got : List (List ℕ)) (t : List ℕ) (w : List (List ℕ)) → passages n k before got t ≡ Ok w
    → (ms : List (List ℕ)) × (got ++ ms ≡ w) × (length ms ≡ n) × (t ≡ flat_map pass_text ms) × AllByRecursion (Bytes 64) ms × (in_order before ms ≡ true)
passages_back zero k before got t w r =
    let x = cond_ok (eqb (length t) 0) got w (14, k) r in
    ([], append-nil got ∙ x.1, refl, nil_from_length t (eqb-true _ _ x.0), tt, refl)
passages_back (suc n) k before got t w r =
    let x = then_ok (line_at k (passage_of k before) (first_line t)) _ w r in
    let m = x.0.0 in
    let f = first_passage k before t x.0 x.1 in
    let y = passages_back n (k + 1) (serial_of x.0.0) (got ++ (x.0.0 ∷ [])) x.0.1 w x.2 in
    (m ∷ y.0, sym (append_assoc got (m ∷ []) y.0) ∙ y.1, ap suc y.2, f.0 ∙ ap (λ u. pass_text m ++ u) y.3, (f.1, y.4), and_from (fits_after before m) _ f.2 y.5)

pub saved_valid : (n : Numbers) (c : List ℕ) (w : List (List ℕ)) → ValidNumbers n → length w ≤ n.window → Bytes 128 c → AllByRecursion (Bytes 64) w → in_order n.last w ≡ true → Valid (saved n c w)
saved_valid n c w s e b a o =
    let few = s.few in
    let most = s.most in
    record { size = s.size; few = omega (arith, few, e); most = omega (arith, most, e); high = s.high; risen = s.risen; fresh = s.fresh; paid = s.paid; chain = b; blocks = a; order = o }

pub saved_text : (n : Numbers) (c : List ℕ) (w : List (List ℕ)) → length w ≡ n.window → text_of (saved n c w) ≡ numbers_text n ++ (hex_line (codes "chain") c ++ flat_map pass_text w)
saved_text n c w e = ap (λ m. text_telling m (saved n c w)) e

pub text_back : ReadSaves
text_back t s r =
    let x = then_ok (line_at 1 (numbers_of 1) (first_line t)) _ s r in
    let y = then_ok (line_at 2 (chain_of 2) (first_line x.0.1)) _ s x.2 in
    let z = then_ok (passages x.0.0.window 3 x.0.0.last [] y.0.1) _ s y.2 in
    let n = x.0.0 in
    let f = first_numbers 1 t x.0 x.1 in
    let g = first_chain 2 x.0.1 y.0 y.1 in
    let p = passages_back x.0.0.window 3 x.0.0.last [] y.0.1 z.0 z.1 in
    let e : saved x.0.0 y.0.0 p.0 ≡ s = ap (saved x.0.0 y.0.0) p.1 ∙ ok_inj _ s z.2 in (
      subst Valid e (saved_valid n y.0.0 p.0 f.1 (let l = p.2 in omega (arith, l)) g.1 p.4 p.5),
      sym (ap text_of e) ∙ saved_text n y.0.0 p.0 p.2
          ∙ sym (f.0 ∙ ap (λ u. numbers_text n ++ u) (g.0 ∙ ap (λ u. hex_line (codes "chain") y.0.0 ++ u) p.3)),
    )
