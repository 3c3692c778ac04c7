use Rattle.std.proofs.Common.{◌∙◌, arith}
use Rattle.std.proofs.lemmas.List.{get_or-take, length-take}
use Rattle.byte_strings.proofs.Xored.{mask_more, mask_all}
use Rattle.byte_strings.proofs.xor_into.Goals as goal

pub loop-i-preserved : goal.loop-i-preserved
loop-i-preserved c =
    let bytes = c.args.bytes.now in
    let mask = c.args.mask.now in
    let i = c.loop-i.i in
    let n = length-take c.min-both.result mask in
    let m = mask_more bytes mask i (omega arith) (omega arith) in
    let e = get_or-take c.min-both.result mask i 0 (omega arith) in
    cc

pub returns : goal.returns
returns c =
    let n = length-take c.min-both.result c.args.mask.now in
    c.loop-i.invariant ∙ mask_all c.args.bytes.now c.args.mask.now c.loop-i.i (omega arith)
