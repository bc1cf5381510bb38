use Rattle.std.proofs.Math.Logic.{∥∥₁_elim}
use Rattle.std.specs.Coded.{Coded-set, codes, coded_result, coded_ℕ}
use Rattle.read.proofs.form.FromBytes.view_slice_word.Goals as goal

pub returns : goal.returns
returns g c = ∥∥₁_elim c.args.view.now.stands (Coded-set (coded_result coded_ℕ (hlevel codes)) _ _) c.form_slice_word.ensures
