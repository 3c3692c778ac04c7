use Rattle.std.proofs.Common.{◌≡◌, ℕ, ◌+◌, ◌-◌, ◌<◌, List, get_or, drop, sym, ap, ◌∙◌, subst, div-one, arith}
use Rattle.std.proofs.lemmas.Nat.{be_bytes_8}
use Rattle.std.proofs.lemmas.Simd.{get_or-chunk}
use Rattle.byte_strings.specs.Bytes.{big_endian}
use Rattle.byte_strings.proofs.Strings.{small_take, small_drop}
use Rattle.slicing.proofs.BigEndian.{eight_bit}
use Rattle.words.proofs.eight.read_half.Goals as goal

-- the eight bytes in the array are those from byte `at` on
pub returns : goal.returns
returns c =
    let x : List ℕ = c.args.bytes.now in
    let a : ℕ = c.args.at in
    let n : ℕ = c.from_be_bytes.result in
    let y : List ℕ = c.copy_from_slice.new.self in
    let s : (k : ℕ) → get_or y k 0 < 256
    = subst (λ (ys : List ℕ). (k : ℕ) → get_or ys k 0 < 256) (sym c.copy_from_slice.ensures.after)
    (small_take (a + 8 - a) (drop a x) (small_drop a x c.fits-bytes)) in
    let e : big_endian 8 n ≡ y = simp div-one (be_bytes_8 y n c.copy_from_slice.ensures.len s c.from_be_bytes.ensures) in
    eight_bit x y a n e
    (λ k h. ap (λ (ys : List ℕ). get_or ys k 0) c.copy_from_slice.ensures.after ∙ get_or-chunk a (a + 8 - a) x k 0 (omega arith))
