use Rattle.std.proofs.Common.{Err, ap, ◌∙◌, arith}
use Rattle.std.proofs.lemmas.Result.{err_from_is_err_and}
use Rattle.offsets.proofs.FormLemmas.{found, head_enough, head_few}
use Rattle.offsets.proofs.form.StridesFromBytes.sized.Goals as goal

pub overflow_add-at : goal.overflow_add-at
overflow_add-at g c =
    let d = c.args.image.now in
    let l = found (g.S.Store.words d.store) d.asked c.args.at _ _ c.in_ok-has_words.field-0 c.in_ok-has_words.ensures in
    omega arith

pub returns-in_err-has_words : goal.returns-in_err-has_words
returns-in_err-has_words g c t =
    let d = c.args.image.now in
    let r = err_from_is_err_and c.from_residual.result c.from_residual.ensures.1 in
    rw (r.1 ∙ ap Err r.2) (head_few (g.S.Store.words d.store) d.asked c.args.at t c.in_err-has_words.field-0.0 c.in_err-has_words.ensures)

pub returns : goal.returns
returns g c t =
    let d = c.args.image.now in
    head_enough (g.S.Store.words d.store) d.asked c.args.at t c.sized.result c.in_ok-has_words.ensures (c.sized.ensures (omega arith))
