use Rattle.std.proofs.Common.{◌≡◌, List, [], ◌++◌, length, take, sym, ap, ◌∙◌, subst, arith}
use Rattle.std.specs.List.{flat_map, AllByRecursion}
use Rattle.std.proofs.lemmas.List.{take_all, map_more, flat_map_more}
use Rattle.std.proofs.ByRecursion.{All-push}
use Rattle.byte_strings.specs.Bytes.{Bytes}
use Rattle.passages.specs.Coding.{encoded}
use Rattle.passages.specs.Rows.{encoded_all}
use Rattle.passages.specs.declared.passage.Passage.{Passage}
use Rattle.fields.proofs.Texts.{then_part, whole}
use Rattle.text_laws.specs.Written.{pass_text}
use Rattle.saved_text.specs.Snapshots.{capacity}
use Rattle.saved_text.proofs.writing.push_passages.Goals as goal

pub loop-passage-init : goal.loop-passage-init
loop-passage-init c =
    let e = ap length c.as_slice.ensures.value in
    let short = c.as_slice.ensures.short in
    record { bytes = whole capacity c.args.text.now (omega (arith, e, short)); wide = tt }

pub loop-passage-preserved : goal.loop-passage-preserved
loop-passage-preserved c =
    let ps = c.args.passages.now in
    let i = c.loop-passage.passage-index in
    let old = c.args.text.now in
    let before = encoded_all (take i ps) in
    let long : length c.from.result ≡ 64 = omega arith in
    record {
      bytes = then_part capacity old _ _ (flat_map pass_text before) (pass_text c.from.result) c.loop-passage.invariant.bytes c.push_line.ensures.bytes
          ∙ ap (λ u. take capacity (old ++ u))
          (ap (λ m. flat_map pass_text before ++ pass_text m) c.from.ensures ∙ flat_map_more pass_text [] before _ ∙ sym (ap (flat_map pass_text) (map_more encoded ps i _ c.loop-passage-test.true)));
      wide = subst (AllByRecursion (Bytes 64)) (sym (map_more encoded ps i _ c.loop-passage-test.true))
          (All-push (Bytes 64) before _ c.loop-passage.invariant.wide (subst (Bytes 64) c.from.ensures (subst (λ n. Bytes n c.from.result) long c.push_line.ensures.wide)));
    }

pub returns : goal.returns
returns c =
    let e = take_all c.loop-passage.passage-index c.args.passages.now c.loop-passage-test.false in
    record {
      bytes = c.loop-passage.invariant.bytes ∙ ap (λ ps. take capacity (c.args.text.now ++ flat_map pass_text (encoded_all ps))) e;
      wide = subst (λ (ps : List Passage). AllByRecursion (Bytes 64) (encoded_all ps)) e c.loop-passage.invariant.wide;
    }
