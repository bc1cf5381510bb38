use Rattle.std.proofs.Common.{arith}
use Rattle.read.proofs.RunFormLemmas.{run_slice}
use Rattle.read.proofs.run.RunFromBytes.form_slice_len.Goals as goal

pub returns : goal.returns
returns g c ws h = run_slice g.met.T.Element.one_to_one h c.args.k (omega arith)
