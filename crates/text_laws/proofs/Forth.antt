-- The text of a valid roll reads as that roll.
use Rattle.std.proofs.Common.{◌≡◌, ℕ, ◌+◌, true, List, [], ◌∷◌, ◌++◌, length, Some, Ok, codes, decimal, sym, refl, ap, ◌∙◌, append_assoc, arith}
use Rattle.std.specs.List.{flat_map, AllByRecursion}
use Rattle.std.proofs.lemmas.List.{append-nil}
use Rattle.std.proofs.lemmas.Bool.{and_parts}
use Rattle.byte_strings.specs.Bytes.{Bytes}
use Rattle.passages.specs.Fields.{fits_after, serial_of}
use Rattle.passages.specs.Rows.{in_order}
use Rattle.fields.specs.Hex.{hex_of}
use Rattle.fields.specs.Faults.{Read}
use Rattle.text_laws.specs.Lines.{LineFields, roll_line, chain_line, pass_line, first_line}
use Rattle.text_laws.specs.Values.{Numbers, then_read, are_valid, numbers_of, chain_of, passage_of}
use Rattle.text_laws.specs.Saved.{Saved, passages}
use Rattle.text_laws.specs.Written.{hex_line, pass_text, numbers_text, numbers_in, text_of}
use Rattle.text_laws.specs.Valid.{Valid}
use Rattle.text_laws.specs.Laws.{SavedReads}
use Rattle.text_laws.proofs.Cuts.{lacks, lacks_append}
use Rattle.text_laws.proofs.Fields.{number_forth, bytes_forth, lacks_decimal, lacks_hex}
use Rattle.text_laws.proofs.Lines.{line_text, roll_forth, first_forth, word_forth, at_forth}
use Rattle.text_laws.proofs.Numbers.{Small, ValidNumbers, small, numbers_valid}

-- line 1
pub numbers_line : Numbers → LineFields
numbers_line n = roll_line (decimal n.size) (decimal n.shipped) (decimal n.last) (decimal n.cents) (decimal n.window)

pub numbers_split : (n : Numbers) (rest : List ℕ) → numbers_text n ++ rest ≡ line_text (numbers_line n) ++ (10 ∷ rest)
unfolding numbers_line
numbers_split n rest = simp append_assoc

pub numbers_lack : (n : Numbers) → Small n → lacks 10 (line_text (numbers_line n)) ≡ true
unfolding numbers_line
numbers_lack n b =
    lacks_append 10 (decimal n.size) (9 ∷ (decimal n.shipped ++ (9 ∷ (decimal n.last ++ (9 ∷ (decimal n.cents ++ (9 ∷ decimal n.window))))))) (lacks_decimal 10 n.size (omega arith) b.size)
    (lacks_append 10 (decimal n.shipped) (9 ∷ (decimal n.last ++ (9 ∷ (decimal n.cents ++ (9 ∷ decimal n.window))))) (lacks_decimal 10 n.shipped (omega arith) b.shipped)
    (lacks_append 10 (decimal n.last) (9 ∷ (decimal n.cents ++ (9 ∷ decimal n.window))) (lacks_decimal 10 n.last (omega arith) b.last)
    (lacks_append 10 (decimal n.cents) (9 ∷ decimal n.window) (lacks_decimal 10 n.cents (omega arith) b.cents)
    (lacks_decimal 10 n.window (omega arith) b.window))))

numbers_first : (n : Numbers) (rest : List ℕ) → Small n → first_line (numbers_text n ++ rest) ≡ Some (numbers_line n, rest)
unfolding numbers_line
numbers_first n rest b =
    let r = roll_forth (decimal n.size) (decimal n.shipped) (decimal n.last) (decimal n.cents) (decimal n.window)
    (lacks_decimal 9 n.size (omega arith) b.size) (lacks_decimal 9 n.shipped (omega arith) b.shipped) (lacks_decimal 9 n.last (omega arith) b.last) (lacks_decimal 9 n.cents (omega arith) b.cents) in
    ap first_line (numbers_split n rest)
    ∙ first_forth (numbers_line n) rest (numbers_lack n b)
    (word_forth (codes "roll") (numbers_line n) (decimal n.size ++ (9 ∷ (decimal n.shipped ++ (9 ∷ (decimal n.last ++ (9 ∷ (decimal n.cents ++ (9 ∷ decimal n.window)))))))) refl r)

numbers_read : (k : ℕ) (n : Numbers) → Small n → are_valid n ≡ true → numbers_of k (numbers_line n) ≡ Ok n
unfolding numbers_line
numbers_read k n b e =
    rw (number_forth k n.size b.size) (rw (number_forth k n.shipped b.shipped) (rw (number_forth k n.last b.last) (rw (number_forth k n.cents b.cents) (rw (number_forth k n.window b.window) (rw e refl)))))

-- a line of a word and hexadecimal digits
pub hex_split : (w m rest : List ℕ) → hex_line w m ++ rest ≡ (w ++ (9 ∷ hex_of m)) ++ (10 ∷ rest)
hex_split w m rest = simp append_assoc

chain_first : (m rest : List ℕ) → first_line (hex_line (codes "chain") m ++ rest) ≡ Some (chain_line (hex_of m), rest)
chain_first m rest =
    ap first_line (hex_split (codes "chain") m rest)
    ∙ first_forth (chain_line (hex_of m)) rest (lacks_hex 10 (omega arith) m) (word_forth (codes "chain") (chain_line (hex_of m)) (hex_of m) refl refl)

pass_first : (m rest : List ℕ) → first_line (pass_text m ++ rest) ≡ Some (pass_line (hex_of m), rest)
pass_first m rest =
    ap first_line (hex_split (codes "pass") m rest)
    ∙ first_forth (pass_line (hex_of m)) rest (lacks_hex 10 (omega arith) m) (word_forth (codes "pass") (pass_line (hex_of m)) (hex_of m) refl refl)

pass_read : (k before : ℕ) (m : List ℕ) → Bytes 64 m → fits_after before m ≡ true → passage_of k before (pass_line (hex_of m)) ≡ Ok m
pass_read k before m b o = rw (bytes_forth k 64 m b) (rw o refl)

passages_forth : (ms : List (List ℕ)) (k before : ℕ) (got : List (List ℕ)) → AllByRecursion (Bytes 64) ms → in_order before ms ≡ true
    → passages (length ms) k before got (flat_map pass_text ms) ≡ Ok (got ++ ms)
passages_forth [] k before got b o = ap (λ (g : List (List ℕ)). Ok g) (sym (append-nil got))
passages_forth (m ∷ ms) k before got b o =
    let p = and_parts (fits_after before m) (in_order (serial_of m) ms) o in
    let e = at_forth k (pass_text m ++ flat_map pass_text ms) (passage_of k before) (pass_line (hex_of m)) (flat_map pass_text ms) m (pass_first m (flat_map pass_text ms)) (pass_read k before m b.0 p.0) in
    ap (λ (r : Read (List ℕ × List ℕ)). then_read r (λ q. passages (length ms) (k + 1) (serial_of q.0) (got ++ (q.0 ∷ [])) q.1)) e
    ∙ passages_forth ms (k + 1) (serial_of m) (got ++ (m ∷ [])) b.1 p.1
    ∙ ap (λ (g : List (List ℕ)). Ok g) (append_assoc got (m ∷ []) ms)

-- the numbers of a valid roll's line 1 are valid
pub roll_numbers : (s : Saved) → Valid s → ValidNumbers (numbers_in (length s.window) s)
roll_numbers s v = record { size = v.size; few = v.few; most = v.most; high = v.high; risen = v.risen; fresh = v.fresh; paid = v.paid }

pub text_forth : SavedReads
text_forth s v =
    let n = numbers_in (length s.window) s in
    let st = roll_numbers s v in
    let b = small n st in
    let c = hex_line (codes "chain") s.chain in
    let ps = flat_map pass_text s.window in
    let e1 = at_forth 1 (text_of s) (numbers_of 1) (numbers_line n) (c ++ ps) n (numbers_first n (c ++ ps) b) (numbers_read 1 n b (numbers_valid n st)) in
    let e2 = at_forth 2 (c ++ ps) (chain_of 2) (chain_line (hex_of s.chain)) ps s.chain (chain_first s.chain ps) (bytes_forth 2 128 s.chain v.chain) in
    let e3 = passages_forth s.window 3 s.last [] v.blocks v.order in
    rw e1 (rw e2 (rw e3 refl))
