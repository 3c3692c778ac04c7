use Rattle.std.proofs.Common.{ℕ, ◌<◌, sym, subst, arith}
use Rattle.jh.specs.Inverse.{unfirst, unsecond}
use Rattle.jh.proofs.Tables.{pair_at}
use Rattle.grouped.proofs.Rows.{paired_is}
use Rattle.grouped.proofs.elements.Elements.unmix_pairs.Goals as goal

pub on_pairs-requires : goal.on_pairs-requires
on_pairs-requires g c = (
  omega arith,
  (
    λ a b h k. (h, k),
    λ a b r h k p. let q = pair_at a b h k in subst (λ (r : ℕ × ℕ). (r.0 < 16) × (r.1 < 16)) (sym p.1) (q.back_first, q.back_second),
  ),
)

pub returns : goal.returns
returns g c =
    let p = c.on_pairs.ensures in
    paired_is unfirst unsecond c.args.self.now c.on_pairs.new.self record { even = p.even; long = p.long; each = λ i h. (p.each i h).1 }
