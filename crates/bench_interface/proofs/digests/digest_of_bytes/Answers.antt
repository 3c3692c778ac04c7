use Rattle.bench_interface.proofs.Whole.{told}
use Rattle.bench_interface.proofs.digests.digest_of_bytes.Goals as goal

pub returns-clause-written : goal.returns-clause-written
returns-clause-written g c =
    let e = c.digest.ensures in
    told _ c.digest.result c.args.size c.min-bits.result c.args.message.now c.args.out.now c.digest.new.out c.min-bits.ensures e.answer (e.jh c.requires) e.written
