-- What the lines of a saved text say. A line of another kind than its place wants is not of its form.
use Rattle.std.specs.Prelude.{ℕ, ◌+◌, ◌*◌, Bool, cond, not, ◌&&◌, ◌||◌, List, Ok, Err, ◌==◌, nat_le}
use Rattle.refusals.specs.Sizes.{is_size}
use Rattle.passages.specs.Fields.{fits_after}
use Rattle.fields.specs.Faults.{Read, not_of_form, wrong_value, number_at, bytes_at}
use Rattle.text_laws.specs.Lines.{LineFields, roll_line, chain_line, pass_line}

abbrev pub then_read : {X Y : Type 0} → Read X → (X → Read Y) → Read Y
then_read (Ok x) f = f x
then_read (Err e) f = Err e

-- the numbers of line 1
pub record Numbers : Type 0 where
  pub size : ℕ
  pub shipped : ℕ
  pub last : ℕ
  pub cents : ℕ
  pub window : ℕ

-- the window has 32 places and a roll 1,000,000 standing passages; serials have four bytes and rise; prices have four bytes
abbrev pub counts_agree : Numbers → Bool
counts_agree n =
    nat_le n.window 32 && (nat_le (n.shipped + n.window) 1000000 && (nat_le n.last 4294967295 && (nat_le n.shipped n.last
    && ((not (n.shipped == 0) || (n.last == 0 && n.cents == 0)) && nat_le n.cents (n.shipped * 4294967295)))))

-- the numbers of a line 1
abbrev pub are_valid : Numbers → Bool
are_valid n = is_size n.size && counts_agree n

-- the fields are read before the numbers are looked at
abbrev pub numbers_of : ℕ → LineFields → Read Numbers
numbers_of k (roll_line a b c d e) =
    then_read (number_at k a) (λ size.
    then_read (number_at k b) (λ shipped.
    then_read (number_at k c) (λ last.
    then_read (number_at k d) (λ cents.
    then_read (number_at k e) (λ window.
    let n : Numbers = record { size = size; shipped = shipped; last = last; cents = cents; window = window } in
    cond (are_valid n) (Ok n) (wrong_value k))))))
numbers_of k (chain_line h) = not_of_form k
numbers_of k (pass_line h) = not_of_form k

abbrev pub chain_of : ℕ → LineFields → Read (List ℕ)
chain_of k (roll_line a b c d e) = not_of_form k
chain_of k (chain_line h) = bytes_at k 128 h
chain_of k (pass_line h) = not_of_form k

-- the bytes of a passage that may stand after one with the serial `before`
abbrev pub passage_of : ℕ → ℕ → LineFields → Read (List ℕ)
passage_of k before (roll_line a b c d e) = not_of_form k
passage_of k before (chain_line h) = not_of_form k
passage_of k before (pass_line h) = then_read (bytes_at k 64 h) (λ m. cond (fits_after before m) (Ok m) (wrong_value k))
