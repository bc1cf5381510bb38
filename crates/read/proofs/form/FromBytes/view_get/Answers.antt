use Rattle.std.proofs.Math.Logic.{∥∥₁_elim}
use Rattle.std.specs.Coded.{Coded-set, codes, coded_result}
use Rattle.read.proofs.form.FromBytes.view_get.Goals as goal

-- an equation of answers has one proof at most, so that it may be shown from a form that is known to stand
pub returns : goal.returns
returns g c = ∥∥₁_elim c.args.view.now.stands (Coded-set (coded_result g.row.Self-Elem.coded (hlevel codes)) _ _) c.form_get.ensures
