-- The lines before a refused one are as in the text of a valid roll.
use Rattle.std.proofs.Common.{◌≡◌, ℕ, zero, suc, ◌+◌, ◌-◌, ◌≤◌, true, eqb, List, [], ◌∷◌, ◌++◌, length, replicate, Err, codes, sym, refl, ap, ◌∙◌, subst, ⊎_elim, append_assoc, arith, length-append}
use Rattle.std.specs.List.{flat_map, AllByRecursion}
use Rattle.std.proofs.lemmas.List.{append-nil}
use Rattle.std.proofs.ByRecursion.{All-append}
use Rattle.std.proofs.lemmas.Bool.{and_from}
use Rattle.byte_strings.specs.Bytes.{Bytes}
use Rattle.byte_strings.proofs.Strings.{small_zeros}
use Rattle.passages.specs.Fields.{serial_of, fits_after}
use Rattle.passages.specs.Rows.{in_order, last_serial}
use Rattle.fields.specs.Hex.{hex_of}
use Rattle.text_laws.specs.Lines.{first_line}
use Rattle.text_laws.specs.Values.{Numbers, numbers_of, chain_of, passage_of}
use Rattle.text_laws.specs.Saved.{saved, line_at, passages, read_text}
use Rattle.text_laws.specs.Written.{hex_line, pass_text, numbers_text}
use Rattle.text_laws.specs.FirstLines.{first_lines}
use Rattle.text_laws.specs.Laws.{Begins, RefusedStands}
use Rattle.text_laws.proofs.Inverts.{then_err}
use Rattle.text_laws.proofs.Fields.{lacks_hex}
use Rattle.text_laws.proofs.Lines.{line_text}
use Rattle.text_laws.proofs.Numbers.{ValidNumbers, small, numbers_valid}
use Rattle.text_laws.proofs.Forth.{text_forth, numbers_line, numbers_split, numbers_lack, hex_split}
use Rattle.text_laws.proofs.Back.{first_numbers, first_chain, first_passage, saved_valid, saved_text}
use Rattle.text_laws.proofs.FirstLines.{lines_after}
use Rattle.text_laws.proofs.Depends.{at_cond, at_first, at_numbers, at_chain, at_passage, read_err, text_depends}
use Rattle.text_laws.proofs.Fillers.{fillers, length_fillers, fillers_stand, in_order_append}

-- a line written, and the first j lines of what follows
numbers_lines : (n : Numbers) (j : ℕ) (rest : List ℕ) → ValidNumbers n → first_lines (suc j) (numbers_text n ++ rest) ≡ numbers_text n ++ first_lines j rest
numbers_lines n j rest s =
    ap (first_lines (suc j)) (numbers_split n rest)
    ∙ lines_after (line_text (numbers_line n)) j rest (numbers_lack n (small n s))
    ∙ sym (numbers_split n (first_lines j rest))

chain_lines : (m : List ℕ) (j : ℕ) (rest : List ℕ) → first_lines (suc j) (hex_line (codes "chain") m ++ rest) ≡ hex_line (codes "chain") m ++ first_lines j rest
chain_lines m j rest =
    ap (first_lines (suc j)) (hex_split (codes "chain") m rest)
    ∙ lines_after (codes "chain" ++ (9 ∷ hex_of m)) j rest (lacks_hex 10 (omega arith) m)
    ∙ sym (hex_split (codes "chain") m (first_lines j rest))

pass_lines : (m : List ℕ) (j : ℕ) (rest : List ℕ) → first_lines (suc j) (pass_text m ++ rest) ≡ pass_text m ++ first_lines j rest
pass_lines m j rest =
    ap (first_lines (suc j)) (hex_split (codes "pass") m rest)
    ∙ lines_after (codes "pass" ++ (9 ∷ hex_of m)) j rest (lacks_hex 10 (omega arith) m)
    ∙ sym (hex_split (codes "pass") m (first_lines j rest))

passes_lines : (ms : List (List ℕ)) (rest : List ℕ) → first_lines (length ms) (flat_map pass_text ms ++ rest) ≡ flat_map pass_text ms
passes_lines [] rest = refl
passes_lines (m ∷ ms) rest =
    ap (first_lines (suc (length ms))) (append_assoc (pass_text m) (flat_map pass_text ms) rest)
    ∙ pass_lines m (length ms) (flat_map pass_text ms ++ rest)
    ∙ ap (λ u. pass_text m ++ u) (passes_lines ms rest)

-- the passages that were read before the refusal
passages_begin : (n k before : ℕ) (got : List (List ℕ)) (t : List ℕ) (e : ℕ × ℕ) → passages n k before got t ≡ Err e
    → (ms : List (List ℕ)) × (length ms ≤ n) × (e.1 ≡ k + length ms) × (first_lines (length ms) t ≡ flat_map pass_text ms) × AllByRecursion (Bytes 64) ms × (in_order before ms ≡ true)
passages_begin zero k before got t e h =
    let a = at_cond 14 k (eqb (length t) 0) got e h in
    ([], omega arith, omega (arith, a), refl, tt, refl)
passages_begin (suc n) k before got t e h =
    ⊎_elim
    (λ r. let a = at_first k (passage_of k before) (at_passage k before) (first_line t) e r in ([], omega arith, omega (arith, a), refl, tt, refl))
    (λ x.
    let m = x.0.0 in
    let f = first_passage k before t x.0 x.1 in
    let y = passages_begin n (k + 1) (serial_of x.0.0) (got ++ (x.0.0 ∷ [])) x.0.1 e x.2 in
    let few = y.1 in
    let at = y.2 in (
      m ∷ y.0,
      omega (arith, few),
      omega (arith, at),
      ap (first_lines (suc (length y.0))) f.0 ∙ pass_lines m (length y.0) x.0.1 ∙ ap (λ u. pass_text m ++ u) y.3,
      (f.1, y.4),
      and_from (fits_after before m) _ f.2 y.5,
    ))
    (then_err (line_at k (passage_of k before) (first_line t)) _ e h)

joined_append : (ms ks : List (List ℕ)) → flat_map pass_text (ms ++ ks) ≡ flat_map pass_text ms ++ flat_map pass_text ks
joined_append [] ks = refl
joined_append (m ∷ ms) ks = ap (λ u. pass_text m ++ u) (joined_append ms ks) ∙ sym (append_assoc (pass_text m) (flat_map pass_text ms) (flat_map pass_text ks))

-- a text whose lines before line k are those of numbers, a chain value and passages, whatever follows them
begin : (t : List ℕ) (k : ℕ) (n : Numbers) (c : List ℕ) (ms : List (List ℕ)) → ValidNumbers n → Bytes 128 c → AllByRecursion (Bytes 64) ms → in_order n.last ms ≡ true → length ms ≤ n.window
    → ((rest : List ℕ) → first_lines (k - 1) (numbers_text n ++ (hex_line (codes "chain") c ++ (flat_map pass_text ms ++ rest))) ≡ first_lines (k - 1) t) → Begins t k
begin t k n c ms s b a o l lines =
    record {
      roll = saved n c ms;
      told = n.window;
      valid = saved_valid n c ms s l b a o;
      more = l;
      head = numbers_valid n s;
      lines = ap (λ u. first_lines (k - 1) (numbers_text n ++ (hex_line (codes "chain") c ++ u))) (sym (append-nil (flat_map pass_text ms))) ∙ lines [];
      whole = λ room.
          let j = n.window - length ms in
          let ks = fillers (n.window - length ms) (last_serial n.last ms) in
          let f = fillers_stand (n.window - length ms) (last_serial n.last ms) room in
          let len : length (ms ++ fillers (n.window - length ms) (last_serial n.last ms)) ≡ n.window =
          length-append ms ks ∙ (let m = length_fillers (n.window - length ms) (last_serial n.last ms) in omega (arith, m, l)) in (
            saved n c (ms ++ ks),
            saved_valid n c (ms ++ ks) s (omega (arith, len)) b (All-append (Bytes 64) ms ks a f.0) (in_order_append n.last ms ks o f.1),
            ap (first_lines (k - 1)) (saved_text n c (ms ++ ks) len ∙ ap (λ u. numbers_text n ++ (hex_line (codes "chain") c ++ u)) (joined_append ms ks)) ∙ lines (flat_map pass_text ks),
          );
    }

-- a roll with nothing in it
new_numbers : Numbers
new_numbers = record { size = 224; shipped = 0; last = 0; cents = 0; window = 0 }

new_valid : ValidNumbers new_numbers
unfolding new_numbers
new_valid = record { size = refl; few = omega arith; most = omega arith; high = omega arith; risen = omega arith; fresh = λ z. (refl, refl); paid = omega arith }

zeros : Bytes 128 (replicate 128 0)
zeros = record { len = refl; small = λ k h. small_zeros 128 k }

begin_first : (t : List ℕ) (k : ℕ) → k ≡ 1 → Begins t k
begin_first t k e =
    let P : ℕ → Type 0 = λ m. Begins t m in
    subst P (sym e) (begin t 1 new_numbers (replicate 128 0) [] new_valid zeros tt refl (omega arith) (λ rest. refl))

begin_second : (t : List ℕ) (k : ℕ) (n : Numbers) (rest : List ℕ) → k ≡ 2 → t ≡ numbers_text n ++ rest → ValidNumbers n → Begins t k
begin_second t k n rest e f s =
    let P : ℕ → Type 0 = λ m. Begins t m in
    subst P (sym e) (begin t 2 n (replicate 128 0) [] s zeros tt refl (omega arith)
    (λ more. numbers_lines n 0 (hex_line (codes "chain") (replicate 128 0) ++ ([] ++ more)) s ∙ sym (ap (first_lines 1) f ∙ numbers_lines n 0 rest s)))

begin_later : (t : List ℕ) (k : ℕ) (n : Numbers) (c : List ℕ) (ms : List (List ℕ)) (t1 t2 : List ℕ) → k ≡ 3 + length ms → t ≡ numbers_text n ++ t1 → t1 ≡ hex_line (codes "chain") c ++ t2
    → first_lines (length ms) t2 ≡ flat_map pass_text ms → ValidNumbers n → Bytes 128 c → AllByRecursion (Bytes 64) ms → in_order n.last ms ≡ true → length ms ≤ n.window → Begins t k
begin_later t k n c ms t1 t2 e f g h s b a o l =
    let j : k - 1 ≡ suc (suc (length ms)) = omega (arith, e) in
    let P : ℕ → Type 0 = λ i. (rest : List ℕ) → first_lines i (numbers_text n ++ (hex_line (codes "chain") c ++ (flat_map pass_text ms ++ rest))) ≡ first_lines i t in
    let two : (u : List ℕ) → first_lines (suc (suc (length ms))) (numbers_text n ++ (hex_line (codes "chain") c ++ u)) ≡ numbers_text n ++ (hex_line (codes "chain") c ++ first_lines (length ms) u) =
    λ u. numbers_lines n (suc (length ms)) (hex_line (codes "chain") c ++ u) s ∙ ap (λ v. numbers_text n ++ v) (chain_lines c (length ms) u) in
    begin t k n c ms s b a o l (subst P (sym j) (λ rest.
    two (flat_map pass_text ms ++ rest)
    ∙ ap (λ u. numbers_text n ++ (hex_line (codes "chain") c ++ u)) (passes_lines ms rest ∙ sym h)
    ∙ sym (ap (first_lines (suc (suc (length ms)))) (f ∙ ap (λ u. numbers_text n ++ u) g) ∙ two t2)))

pub text_begins : (t : List ℕ) (e : ℕ × ℕ) → read_text t ≡ Err e → Begins t e.1
text_begins t e h =
    ⊎_elim
    (λ r. begin_first t e.1 (at_first 1 (numbers_of 1) (at_numbers 1) (first_line t) e r))
    (λ x.
    let f = first_numbers 1 t x.0 x.1 in
    ⊎_elim
    (λ r. begin_second t e.1 x.0.0 x.0.1 (at_first 2 (chain_of 2) (at_chain 2) (first_line x.0.1) e r) f.0 f.1)
    (λ y.
    let g = first_chain 2 x.0.1 y.0 y.1 in
    let p = passages_begin x.0.0.window 3 x.0.0.last [] y.0.1 e (read_err (passages x.0.0.window 3 x.0.0.last [] y.0.1) (saved x.0.0 y.0.0) e y.2) in
    begin_later t e.1 x.0.0 y.0.0 p.0 x.0.1 y.0.1 p.2 f.0 g.0 p.3 f.1 g.1 p.4 p.5 p.1)
    (then_err (line_at 2 (chain_of 2) (first_line x.0.1)) _ e x.2))
    (then_err (line_at 1 (numbers_of 1) (first_line t)) _ e h)

pub text_refused : RefusedStands
text_refused t e h =
    let d = text_depends t e h in
    record {
      line = d.0;
      no_roll = λ s v same. let k = sym (text_forth s v) ∙ ap read_text same ∙ h in absurd cc;
      depends = d.1;
      begins = text_begins t e h;
    }
