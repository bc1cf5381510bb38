use Rattle.std.proofs.Common.{◌∙◌, arith}
use Rattle.read.proofs.RunFormLemmas.{word_stored}
use Rattle.read.proofs.element.U64Stored.read.Goals as goal

pub returns : goal.returns
returns g c h = c.word_from.ensures ∙ word_stored (g.S.Store.words c.args.store.now) c.args.from c.args.i (omega arith) (g.met.S.Store.whole c.args.store.now)
