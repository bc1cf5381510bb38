use Rattle.std.proofs.Common.{◌∙◌}
use Rattle.read.proofs.RunFormLemmas.{run_length}
use Rattle.read.proofs.run.RunFromBytes.form_len.Goals as goal

pub returns : goal.returns
returns g c ws h = c.count_in.ensures ∙ run_length g.met.T.Element.one_to_one h
