use Rattle.std.proofs.Common.{rules, ◌≡◌, codes, sym, ap, arith}
use Rattle.std.proofs.lemmas.Slice.Eq.{text_from_reads}
use Rattle.requests.specs.Requests.{alone_of}
use Rattle.requests.proofs.reading.alone.Goals as goal

pub returns-in-reopen : goal.returns-in-reopen
returns-in-reopen c = let e : c.args.line.now ≡ codes "reopen" = text_from_reads c.args.line.now (codes "reopen") (omega arith) (search rules) in ap alone_of (sym e)
