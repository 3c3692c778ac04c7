use Rattle.std.proofs.Common.{◌≡◌, ◌++◌, take}
use Rattle.std.specs.List.{flat_map, AllByRecursion}
use Rattle.byte_strings.specs.Bytes.{Bytes}
use Rattle.passages.specs.Rows.{encoded_all}
use Rattle.text_laws.specs.Written.{pass_text}
use Rattle.saved_text.specs.Snapshots.{capacity}
use Rattle.saved_text.proofs.writing.push_passages.Given as goal

abbrev pub invariant-loop-passage : goal.invariant-loop-passage
invariant-loop-passage l = record {
  bytes : l.text ≡ take capacity (l.initial.text ++ flat_map pass_text (encoded_all (take l.passage-index l.passages)));
  wide : AllByRecursion (Bytes 64) (encoded_all (take l.passage-index l.passages));
}
