use Rattle.std.proofs.Common.{ℕ, List, ◌∙◌, subst}
use Rattle.text_laws.proofs.Forth.{text_forth}
use Rattle.saved_text.specs.Snapshots.{saved_in, Saves}
use Rattle.saved_text.proofs.snapshot.Snapshot.write.Goals as goal

pub returns : goal.returns
returns c =
    let S : List ℕ → Type 0 = λ t. Saves c.args.out.now c.copy.new.out t c.copy.result in
    record { text = subst S (c.as_slice.ensures.value ∙ c.text.ensures.bytes) c.copy.ensures; reads = text_forth (saved_in c.args.self.now); wide = c.text.ensures.wide }
