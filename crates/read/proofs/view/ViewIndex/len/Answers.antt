use Rattle.std.proofs.Math.Logic.{∥∥₁_elim}
use Rattle.std.specs.Coded.{Coded-set, coded_ℕ}
use Rattle.read.proofs.view.ViewIndex.len.Goals as goal

pub returns : goal.returns
returns g c = ∥∥₁_elim c.args.self.now.stands (Coded-set coded_ℕ _ _) (λ s. c.form_len.ensures _ s)
