use Rattle.std.proofs.Common.{◌≡◌, ℕ, ◌+◌, ◌-◌, ◌≤◌, List, length, sym, ap, ◌∙◌, subst, ap₂, div-one, arith}
use lib.Lanes.{put_chunk}
use borrow.Rule.Slice.PartMut.{put_mid}
use Rattle.std.proofs.lemmas.Simd.{put_chunk_is}
use Rattle.byte_strings.specs.Bytes.{Bytes, big_endian}
use Rattle.jh.specs.Permutation.{byte_bit}
use Rattle.words.specs.Eight.{HalfAt}
use Rattle.words.proofs.Writing.{put_here, put_below, put_bytes}
use Rattle.words.proofs.eight.write_half.Goals as goal

pub returns : goal.returns
returns c =
    let x : List ℕ = c.args.bytes.now in
    let at : ℕ = c.args.at in
    let y : List ℕ = big_endian 8 c.args.half in
    let fits : at + 8 ≤ length x = omega (arith, c.told-bytes, c.requires) in
    let n : at + 8 - at ≡ 8 = omega arith in
    let w : c.copy_from_slice.new.self ≡ y = simp div-one (c.copy_from_slice.ensures.after ∙ c.to_be_bytes.ensures) in
    let is : put_mid at (at + 8 - at) x c.copy_from_slice.new.self ≡ put_chunk at x y
    = ap₂ (λ (k : ℕ) (ys : List ℕ). put_mid at k x ys) n w ∙ sym (put_chunk_is at x y fits) in
    record {
      here = subst (λ (z : List ℕ). HalfAt z at c.args.half) (sym is) (put_here x at c.args.half c.told-bytes c.requires);
      below = λ j h. ap (λ (z : List ℕ). byte_bit z j) is ∙ put_below x at c.args.half c.told-bytes c.requires j h;
      bytes = subst (Bytes 128) (sym is) (put_bytes x at c.args.half c.told-bytes c.requires c.fits-bytes);
    }
