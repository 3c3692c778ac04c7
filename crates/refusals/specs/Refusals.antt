-- When a call is refused, by number; 0 where it is accepted. The first sentence that a call meets decides.
use Rattle.std.specs.Prelude.{◌≡◌, ℕ, ◌+◌, ◌-◌, ◌*◌, ◌/◌, ◌^◌, Bool, cond, not, ◌&&◌, List, [], ◌∷◌, slice_index_or, refl, Ok, Err, Result, ◌==◌, nat_le, nat_lt, MatchResult}
use Rattle.refusals.specs.declared.refusal.Refusal.{Refusal}
use Rattle.refusals.specs.declared.refusal.Refusal.TheVariants.{Size, Bytes, Bits, Buffer, Length, Full, Standing, Serial, Form, Price, Shipped, Unknown, Empty, Line, Values, Request}
use Rattle.refusals.specs.declared.size.DigestSize.{DigestSize}
use Rattle.refusals.specs.Sizes.{bits_in, is_size}

-- the number of each refusal
abbrev pub number : Refusal → ℕ
number Size = 1
number Bytes = 2
number Bits = 3
number Buffer = 4
number Length = 5
number Full = 6
number Standing = 7
number Serial = 8
number Form = 9
number Price = 10
number Shipped = 11
number Unknown = 12
number Empty = 13
number Line = 14
number Values = 15
number Request = 16

-- the refusals by their numbers, from 1 on
abbrev pub refusals : List Refusal
refusals =
    Size ∷ (Bytes ∷ (Bits ∷ (Buffer ∷ (Length ∷ (Full ∷ (Standing ∷ (Serial ∷ (Form ∷ (Price ∷ (Shipped ∷ (Unknown ∷ (Empty ∷ (Line ∷ (Values ∷ (Request ∷ [])))))))))))))))

-- the refusal with that number
abbrev pub refusal_of : ℕ → Refusal
refusal_of n = slice_index_or refusals (n - 1) Request

-- each refusal is the one with its number
pub numbered_back : (e : Refusal) → refusal_of (number e) ≡ e
numbered_back Size = refl
numbered_back Bytes = refl
numbered_back Bits = refl
numbered_back Buffer = refl
numbered_back Length = refl
numbered_back Full = refl
numbered_back Standing = refl
numbered_back Serial = refl
numbered_back Form = refl
numbered_back Price = refl
numbered_back Shipped = refl
numbered_back Unknown = refl
numbered_back Empty = refl
numbered_back Line = refl
numbered_back Values = refl
numbered_back Request = refl

-- what a call answered: 0, or the number of its refusal
abbrev pub outcome : {T : Type 0} → Result T Refusal → ℕ
outcome (Ok x) = 0
outcome (Err e) = number e

abbrev pub size_refusal : ℕ → ℕ
size_refusal size = cond (is_size size) 0 1

-- what a number of bits is read as: the size that has so many bits, or the refusal of a size
abbrev pub ReadsSize : ℕ → Result DigestSize Refusal → Type 0
ReadsSize n r = (outcome r ≡ size_refusal n) × MatchResult r (λ s. bits_in s ≡ n) (λ e. e ≡ Size)

-- the buffer has so many bytes, and so many are written
abbrev pub buffer_refusal : ℕ → ℕ → ℕ
buffer_refusal room written = cond (nat_lt room written) 4 0

-- `more` bytes after `before`
abbrev pub feed_refusal : ℕ → ℕ → ℕ
feed_refusal before more = cond (nat_lt (2 ^ 40) (before + more)) 2 0

-- the digest of so many bits of so many bytes, in one call
abbrev pub digest_refusal : ℕ → ℕ → ℕ → ℕ → ℕ
digest_refusal size bytes bits room =
    cond (is_size size) (cond (nat_lt (2 ^ 40) bytes) 2 (cond (nat_lt (8 * bytes) bits) 3 (buffer_refusal room (size / 8)))) 1

-- a passage with that serial after one with the serial `last` (0 where none stands); its class, version and zero bytes are
-- of the form, or not, and its prices agree, or not
abbrev pub next_refusal : (last serial : ℕ) (formed priced : Bool) → ℕ
next_refusal last serial formed priced = cond (nat_le serial last) 8 (cond (not formed) 9 (cond (not priced) 10 0))

-- a pass of so many bytes, with so many passages in the window and so many standing, the last of them with the serial `last`
abbrev pub pass_refusal : (bytes waiting standing last serial : ℕ) (formed priced : Bool) → ℕ
pass_refusal bytes waiting standing last serial formed priced =
    cond (not (bytes == 64)) 5 (cond (nat_le 32 waiting) 6 (cond (nat_le 1000000 standing) 7 (next_refusal last serial formed priced)))

-- a cancel of a serial that the window holds or not, with so many passages shipped, the last of them with the serial `last`
abbrev pub cancel_refusal : (shipped last serial : ℕ) (held : Bool) → ℕ
cancel_refusal shipped last serial held = cond (nat_lt 0 shipped && nat_le serial last) 11 (cond held 0 12)

-- a ship into a buffer of so many bytes, with so many passages in the window
abbrev pub ship_refusal : (room waiting : ℕ) → ℕ
ship_refusal room waiting = cond (nat_lt room 64) 4 (cond (waiting == 0) 13 0)
