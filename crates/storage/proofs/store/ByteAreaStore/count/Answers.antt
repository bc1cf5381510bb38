use Rattle.std.proofs.Common.{sym}
use Rattle.storage.proofs.StoreLemmas.{length-join_words}
use Rattle.storage.proofs.store.ByteAreaStore.count.Goals as goal

pub returns : goal.returns
returns c = sym (length-join_words c.args.self.now.bytes.now)
