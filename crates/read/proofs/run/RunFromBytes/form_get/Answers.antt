use Rattle.std.proofs.Common.{Err, ap, ◌∙◌, arith}
use Rattle.read.proofs.RunFormLemmas.{run_at, run_past, run_room}
use Rattle.read.proofs.run.RunFromBytes.form_get.Goals as goal

pub returns-then-i-count_in : goal.returns-then-i-count_in
returns-then-i-count_in g c h = ap Err c.at_start.ensures ∙ run_past g.met.T.Element.one_to_one h c.args.i (omega arith)

pub returns : goal.returns
returns g c h =
    let e = c.read.ensures (run_room g.met.T.Element.one_to_one h c.args.i (omega arith)) in
    rw (c.ok_or.ensures.value, e) (run_at g.met.T.Element.one_to_one h c.args.i (omega arith))
