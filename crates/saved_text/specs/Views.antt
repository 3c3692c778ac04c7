-- What the types of the code say.
use Rattle.std.specs.Prelude.{◌≡◌, true, false, Ok, Err, Result}
use Rattle.refusals.specs.Sizes.{bits_in}
use Rattle.refusals.specs.declared.refusal.Refusal.{Refusal}
use Rattle.refusals.specs.declared.refusal.Refusal.TheVariants.{Values}
use Rattle.text_laws.specs.Values.{Numbers, are_valid}
use Rattle.saved_text.specs.declared.head.Head.{Head}
use Rattle.saved_text.specs.declared.head.LineNumbers.{LineNumbers}
use Rattle.text_laws.specs.Lines.{LineFields, roll_line, chain_line, pass_line}
use Rattle.saved_text.specs.declared.line.Line.{Line}
use Rattle.saved_text.specs.declared.line.Line.TheVariants.{Roll, Chain, Pass}

-- the fields that a line borrows
abbrev pub view : Line → LineFields
view (Roll a b c d e) = roll_line a.now b.now c.now d.now e.now
view (Chain h) = chain_line h.now
view (Pass h) = pass_line h.now

-- the numbers of line 1, as they are read
abbrev pub read_numbers : LineNumbers → Numbers
read_numbers n = record { size = n.size; shipped = n.shipped; last = n.last; cents = n.cents; window = n.window }

-- the numbers of a valid line 1
abbrev pub head_numbers : Head → Numbers
head_numbers h = record { size = bits_in h.size; shipped = h.shipped; last = h.last; cents = h.cents; window = h.window }

-- what numbers of line 1 come to: a head with the same numbers where they are valid, or the refusal of values
abbrev pub Heads : LineNumbers → Result Head Refusal → Type 0
Heads n (Ok h) = (are_valid (read_numbers n) ≡ true) × (head_numbers h ≡ read_numbers n)
Heads n (Err e) = (are_valid (read_numbers n) ≡ false) × (e ≡ Values)
