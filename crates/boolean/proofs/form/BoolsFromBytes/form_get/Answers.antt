use Rattle.std.proofs.Common.{Err, ap, ◌∙◌}
use Rattle.std.proofs.lemmas.Result.{err_from_is_err_and}
use Rattle.boolean.proofs.BitsLemmas.{bit_found, bit_refused}
use Rattle.boolean.proofs.form.BoolsFromBytes.form_get.Goals as goal

pub returns-in_err-form_bits_at : goal.returns-in_err-form_bits_at
returns-in_err-form_bits_at g c s =
    let p = err_from_is_err_and c.from_residual.result c.from_residual.ensures.1 in
    p.1 ∙ ap Err p.2 ∙ bit_refused _ c.args.i _ (c.in_err-form_bits_at.ensures s)

pub returns : goal.returns
returns g c s = bit_found _ c.args.i _ (c.in_ok-form_bits_at.ensures s)
