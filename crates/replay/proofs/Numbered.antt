-- Each refusal in the daybook is that of its number.
use Rattle.std.proofs.Common.{◌≡◌, ℕ, Bool, true, false, cond, refl, ◌==◌}
use Rattle.refusals.specs.Refusals.{number, refusal_of}
use Rattle.daybook.specs.Daybook.{Call, Daybook, refusal}
use Rattle.daybook.specs.Daybook.Call.{passing, cancelling, shipping, closing, reopening, saving, resuming}

-- n is 0, or the number of a refusal
abbrev pub Numbered : ℕ → Type 0
Numbered n = cond (n == 0) 0 (number (refusal_of n)) ≡ n

either : (b : Bool) (m n : ℕ) → Numbered m → Numbered n → Numbered (cond b m n)
either true m n f g = f
either false m n f g = g

pub numbered : (d : Daybook) (c : Call) → Numbered (refusal d c)
numbered d (passing m) =
    either _ 5 _ refl (either _ 6 _ refl (either _ 7 _ refl (either _ 8 _ refl (either _ 9 _ refl (either _ 10 0 refl refl)))))
numbered d (cancelling n) = either _ 11 _ refl (either _ 0 12 refl refl)
numbered d (shipping room) = either _ 4 _ refl (either _ 13 0 refl refl)
numbered d closing = refl
numbered d reopening = refl
numbered d (saving room) = either _ 4 0 refl refl
numbered d resuming = refl
