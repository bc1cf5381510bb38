use Rattle.std.proofs.Common.{arith}
use Rattle.storage.proofs.SinkLemmas.{spill-set}
use Rattle.storage.proofs.write.WordSink.put.Goals as goal

pub returns-clause-written : goal.returns-clause-written
returns-clause-written c =
    let s = c.args.self.now in
    spill-set s.area.now s.at s.part c.with_byte.result c.args.byte (omega arith) (omega arith) c.with_byte.ensures
