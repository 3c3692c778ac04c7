use Rattle.std.proofs.Common.{◌++◌, take, ap, ◌∙◌}
use Rattle.fields.proofs.Texts.{put_at_end, still_padded}
use Rattle.fields.proofs.text.Text.push.Goals as goal

pub invariant_of-self : goal.invariant_of-self
invariant_of-self g c =
    let t = c.self.inside in
    still_padded g.row.N t.len c.min-n.result t.bytes c.args.part.now c.copy_from_slice.new.self c.self.invariant.0 c.self.invariant.1 c.min-n.ensures c.copy_from_slice.ensures.after c.self.invariant.2

pub returns : goal.returns
returns g c =
    let t = c.self.inside in
    put_at_end g.row.N t.len c.min-n.result t.bytes c.args.part.now c.copy_from_slice.new.self c.self.invariant.0 c.self.invariant.1 c.min-n.ensures c.copy_from_slice.ensures.after
    ∙ ap (λ u. take g.row.N (u ++ c.args.part.now)) c.self.view_is
