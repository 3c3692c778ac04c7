use Rattle.std.proofs.Common.{◌≡◌, ◌++◌, length, take, sym, ap, ◌∙◌, arith}
use Rattle.std.proofs.lemmas.List.{take_all, length-take-le}
use Rattle.fields.specs.Hex.{hex_of}
use Rattle.fields.proofs.Texts.{then_part, whole, hex_more}
use Rattle.fields.proofs.text.Text.push_hex.Goals as goal

pub loop-b-init : goal.loop-b-init
loop-b-init g c =
    let t = c.self.inside in
    let l : length c.args.self.now ≡ t.len = ap length (sym c.self.view_is) ∙ length-take-le t.len t.bytes (omega arith) in
    whole g.row.N c.args.self.now (omega (arith, l))

pub loop-b-preserved : goal.loop-b-preserved
loop-b-preserved g c =
    let bs = c.args.bytes.now in
    let i = c.loop-b.b-index in
    let old = c.args.self.now in
    then_part g.row.N old _ _ (hex_of (take i bs)) c.digits.result c.loop-b.invariant c.push_two.ensures
    ∙ ap (λ u. take g.row.N (old ++ u)) (ap (λ u. hex_of (take i bs) ++ u) c.digits.ensures ∙ sym (hex_more bs i c.loop-b-test.true))

pub returns : goal.returns
returns g c = c.loop-b.invariant ∙ ap (λ u. take g.row.N (c.args.self.now ++ hex_of u)) (take_all c.loop-b.b-index c.args.bytes.now c.loop-b-test.false)
