use Rattle.std.proofs.Common.{ap, ◌∙◌}
use Rattle.std.specs.Result.{result_unwrap_or}
use Rattle.boolean.proofs.BitsLemmas.{word_found}
use Rattle.boolean.proofs.form.word_at.Goals as goal

pub returns : goal.returns
returns g c s =
    let w = c.args.form.now.tail.word in
    c.unwrap_or.ensures ∙ ap (λ r. result_unwrap_or r w) (c.form_get.ensures s) ∙ word_found _ w c.args.block
