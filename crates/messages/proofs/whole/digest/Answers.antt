use Rattle.std.proofs.Common.{◌≡◌, ℕ, ◌/◌, ◌%◌, List, [], ◌++◌, get_or, take, drop, ap, ◌∙◌, subst, arith}
use Rattle.jh.specs.Message.{bits_of, digest_of, tail}
use Rattle.jh.specs.Ending.{ending, marked}
use Rattle.jh.proofs.Padded.{digest_from_bytes}
use Rattle.refusals.specs.Sizes.{bits_in}
use Rattle.messages.specs.Holds.{Holds}
use Rattle.messages.proofs.whole.digest.Goals as goal

pub returns-clause-written : goal.returns-clause-written
returns-clause-written g c =
    let p = c.args.press.now in
    let n = c.args.size in
    let xs = c.args.bytes.now in
    let b = c.args.bits in
    let st = (g.P.Press.means p).steps in
    let o = c.opening.result in
    let z : bits_in c.in_ok-size.size ≡ n = c.in_ok-size.ensures.1 in
    let last = get_or xs (b / 8) 0 in
    let whole : List ℕ = take (b / 8) xs ++ ending (marked (b % 8) last) b in
    let t = c.take_all.ensures.holds o [] (c.new-state.ensures.holds st) in
    let e = c.end.ensures.holds o (take (b / 8) xs) t in
    let h : Holds st o whole c.end.new.self =
    subst (λ (y : List ℕ). Holds st o y c.end.new.self) (ap (λ (l : ℕ). take (b / 8) xs ++ ending l b) c.last_byte.ensures) e in
    let d : tail n c.end.new.self.chain ≡ digest_of st ((g.P.Press.means p).opens n) n (take b (bits_of xs)) =
    ap (tail n) h.chained
    ∙ digest_from_bytes xs (λ k. omega (arith, c.type_inv.bytes k)) b (b / 8) (b % 8) (omega arith) (omega arith) (omega arith) st o n
    ∙ ap (λ (y : List ℕ). digest_of st y n (take b (bits_of xs))) (c.opening.ensures ∙ ap (g.P.Press.means p).opens z) in
    c.write_tail.ensures
    ∙ ap (λ (y : ℕ). tail y c.end.new.self.chain ++ drop (y / 8) c.args.out.now) z
    ∙ ap (λ (y : List ℕ). y ++ drop (n / 8) c.args.out.now) d
