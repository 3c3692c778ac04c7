-- The text of a roll.
use Rattle.std.specs.Prelude.{ℕ, List, [], ◌∷◌, ◌++◌, length, codes, decimal}
use Rattle.std.specs.List.{flat_map}
use Rattle.fields.specs.Hex.{hex_of}
use Rattle.text_laws.specs.Values.{Numbers}
use Rattle.text_laws.specs.Saved.{Saved}

-- a tab and a decimal field
abbrev pub field_text : ℕ → List ℕ
field_text n = 9 ∷ decimal n

-- a word, a tab, the digits of bytes and a line feed
abbrev pub hex_line : List ℕ → List ℕ → List ℕ
hex_line w m = w ++ (9 ∷ (hex_of m ++ (10 ∷ [])))

abbrev pub pass_text : List ℕ → List ℕ
pass_text m = hex_line (codes "pass") m

abbrev pub numbers_text : Numbers → List ℕ
numbers_text n = codes "roll" ++ (field_text n.size ++ (field_text n.shipped ++ (field_text n.last ++ (field_text n.cents ++ (field_text n.window ++ (10 ∷ []))))))

-- the numbers of line 1, where it tells the window count w
abbrev pub numbers_in : ℕ → Saved → Numbers
numbers_in w s = record { size = s.size; shipped = s.shipped; last = s.last; cents = s.cents; window = w }

-- the numbers of its line 1
abbrev pub numbers_told : Saved → Numbers
numbers_told s = numbers_in (length s.window) s

-- line 1 tells the window count w; then the chain value and the passages of s
abbrev pub text_telling : ℕ → Saved → List ℕ
text_telling w s = numbers_text (numbers_in w s) ++ (hex_line (codes "chain") s.chain ++ flat_map pass_text s.window)

-- the text of a roll
abbrev pub text_of : Saved → List ℕ
text_of s = text_telling (length s.window) s
