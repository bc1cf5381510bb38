use Rattle.std.proofs.Common.{ap, ◌∙◌}
use Rattle.std.specs.Result.{result_unwrap_or}
use Rattle.boolean.proofs.BitsLemmas.{word_found}
use Rattle.boolean.proofs.bools.Bools.word.Goals as goal

pub returns : goal.returns
returns g c =
    let bools = c.args.self.now in
    c.unwrap_or.ensures ∙ ap (λ r. result_unwrap_or r bools.tail.word) c.get.ensures ∙ word_found (g.C.Index.list bools.values) bools.tail.word c.args.block
