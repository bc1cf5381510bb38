use Rattle.std.proofs.Common.{Err, ap, ◌∙◌}
use Rattle.std.proofs.lemmas.Result.{err_from_is_err_and}
use Rattle.tuple.proofs.PairLemmas.{element-zip}
use Rattle.tuple.proofs.pair.both.Goals as goal

pub returns-in_err-get : goal.returns-in_err-get
returns-in_err-get g c =
    let p = err_from_is_err_and c.from_residual.result c.from_residual.ensures.1 in
    rw (element-zip _ _ c.args.i c.requires, ← c.in_err-get.ensures) (p.1 ∙ ap Err p.2)

pub returns-in_err-get-2 : goal.returns-in_err-get-2
returns-in_err-get-2 g c =
    let p = err_from_is_err_and c.from_residual-in_err-get-2.result c.from_residual-in_err-get-2.ensures.1 in
    rw (element-zip _ _ c.args.i c.requires, ← c.in_ok-get.ensures, ← c.in_err-get-2.ensures) (p.1 ∙ ap Err p.2)

pub returns : goal.returns
returns g c = rw (element-zip _ _ c.args.i c.requires, ← c.in_ok-get.ensures, ← c.in_ok-get-2.ensures)
