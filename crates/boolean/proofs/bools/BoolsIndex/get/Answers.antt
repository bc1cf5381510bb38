use Rattle.std.proofs.Common.{Err, ap, ◌∙◌}
use Rattle.std.proofs.lemmas.Result.{err_from_is_err_and}
use Rattle.boolean.specs.Bools.{bools_list}
use Rattle.boolean.proofs.BitsLemmas.{bit_found, bit_refused}
use Rattle.boolean.proofs.bools.BoolsIndex.get.Goals as goal

pub returns-in_err-bits_at : goal.returns-in_err-bits_at
returns-in_err-bits_at g c =
    let bools = c.args.self.now in
    let p = err_from_is_err_and c.from_residual.result c.from_residual.ensures.1 in
    p.1 ∙ ap Err p.2 ∙ bit_refused (bools_list (g.C.Index.list bools.values) bools.tail) c.args.i _ c.in_err-bits_at.ensures

pub returns : goal.returns
returns g c =
    let bools = c.args.self.now in
    bit_found (bools_list (g.C.Index.list bools.values) bools.tail) c.args.i _ c.in_ok-bits_at.ensures
