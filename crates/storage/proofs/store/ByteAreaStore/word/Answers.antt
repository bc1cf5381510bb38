use Rattle.std.proofs.Common.{sym, ◌∙◌, arith}
use Rattle.storage.specs.Store.{join_words}
use Rattle.storage.proofs.StoreLemmas.{length-join_words, slice_get-join_words}
use Rattle.std.proofs.lemmas.Option.{slice_get_past}
use Rattle.storage.proofs.store.ByteAreaStore.word.Goals as goal

pub returns-then-i-self : goal.returns-then-i-self
returns-then-i-self c =
    sym (slice_get_past (join_words c.args.self.now.bytes.now) c.args.i (omega (arith, length-join_words c.args.self.now.bytes.now)))

pub returns : goal.returns
returns c = c.join.ensures ∙ slice_get-join_words c.args.self.now.bytes.now c.args.i (omega arith)
