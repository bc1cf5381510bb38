use Rattle.read.specs.FormLaws.{stood}
use Rattle.read.proofs.validate.Admitted.standing.Goals as goal

pub returns : goal.returns
returns g c = stood g.met.K.KeptOnce.kept_prop c.args.self.now.stands
