use Rattle.jh.proofs.Tables.{box_at, pair_at}
use Rattle.jh.proofs.table_laws.Goals as goal

pub returns : goal.returns
returns c = record {
  boxes = λ c a h. let b = box_at c a h in (b.undone, b.redone, b.forth, b.back);
  linear = λ a b h k. let p = pair_at a b h k in (p.undone_first, p.undone_second, p.redone_first, p.redone_second);
}
