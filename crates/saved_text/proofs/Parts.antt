-- A saved text, part by part; each text is cut off at n bytes.
use Rattle.std.proofs.Common.{◌≡◌, ℕ, ◌≤◌, List, [], ◌∷◌, ◌++◌, length, take, codes, ap, ◌∙◌, arith}
use Rattle.std.specs.List.{flat_map}
use Rattle.std.proofs.lemmas.List.{take_all}
use Rattle.fields.specs.Hex.{hex_of}
use Rattle.fields.proofs.Texts.{then_part}
use Rattle.text_laws.proofs.Long.{length_numbers}
use Rattle.text_laws.specs.Saved.{Saved}
use Rattle.text_laws.specs.Values.{Numbers}
use Rattle.text_laws.specs.Written.{field_text, hex_line, pass_text, numbers_text, numbers_told, text_of}

-- a line of a word and hexadecimal digits
pub line_parts : (n : ℕ) (w w0 w1 w2 w3 word m : List ℕ) → w0 ≡ take n (w ++ word) → w1 ≡ take n (w0 ++ (9 ∷ [])) → w2 ≡ take n (w1 ++ hex_of m) → w3 ≡ take n (w2 ++ (10 ∷ []))
    → w3 ≡ take n (w ++ hex_line word m)
line_parts n w w0 w1 w2 w3 word m p0 p1 p2 p3 =
    then_part n w w0 w3 word (9 ∷ (hex_of m ++ (10 ∷ []))) p0 (then_part n w0 w1 w3 (9 ∷ []) (hex_of m ++ (10 ∷ [])) p1 (then_part n w1 w2 w3 (hex_of m) (10 ∷ []) p2 p3))

-- line 1
pub head_parts : (n : ℕ) (v : Numbers) (w w0 w1 w2 w3 w4 w5 w6 : List ℕ) → w0 ≡ take n (w ++ codes "roll") → w1 ≡ take n (w0 ++ field_text v.size) → w2 ≡ take n (w1 ++ field_text v.shipped) → w3 ≡ take n (w2 ++ field_text v.last)
    → w4 ≡ take n (w3 ++ field_text v.cents) → w5 ≡ take n (w4 ++ field_text v.window) → w6 ≡ take n (w5 ++ (10 ∷ [])) → w6 ≡ take n (w ++ numbers_text v)
head_parts n v w w0 w1 w2 w3 w4 w5 w6 p0 p1 p2 p3 p4 p5 p6 =
    let q5 = then_part n w4 w5 w6 (field_text v.window) (10 ∷ []) p5 p6 in
    let q4 = then_part n w3 w4 w6 (field_text v.cents) _ p4 q5 in
    let q3 = then_part n w2 w3 w6 (field_text v.last) _ p3 q4 in
    let q2 = then_part n w1 w2 w6 (field_text v.shipped) _ p2 q3 in
    let q1 = then_part n w0 w1 w6 (field_text v.size) _ p1 q2 in
    then_part n w w0 w6 (codes "roll") _ p0 q1

-- a whole text, which is short enough
pub text_parts : (n : ℕ) (s : Saved) (w0 w1 w2 w3 : List ℕ) (ms : List (List ℕ)) → w0 ≡ [] → w1 ≡ take n (w0 ++ numbers_text (numbers_told s)) → w2 ≡ take n (w1 ++ hex_line (codes "chain") s.chain)
    → w3 ≡ take n (w2 ++ flat_map pass_text ms) → ms ≡ s.window → length (text_of s) ≤ n → w3 ≡ text_of s
text_parts n s w0 w1 w2 w3 ms e0 e1 e2 e3 e h =
    then_part n w0 w1 w3 (numbers_text (numbers_told s)) _ e1
    (then_part n w1 w2 w3 (hex_line (codes "chain") s.chain) (flat_map pass_text s.window) e2 (e3 ∙ ap (λ u. take n (w2 ++ flat_map pass_text u)) e))
    ∙ ap (λ w. take n (w ++ text_of s)) e0
    ∙ take_all n (text_of s) h

-- line 1 is short where its fields are
pub head_short : (v : Numbers) → length (field_text v.size) ≤ 21 → length (field_text v.shipped) ≤ 21 → length (field_text v.last) ≤ 21 → length (field_text v.cents) ≤ 21 → length (field_text v.window) ≤ 21
    → length (numbers_text v) ≤ 110
head_short v a b c d e = let n = length_numbers v in omega (arith, n)
