use Rattle.std.proofs.Common.{◌≡◌, ◌+◌, ◌*◌}
use Rattle.area.specs.Slice.{spill}
use Rattle.storage.proofs.SinkLemmas.{Written}
use Rattle.storage.proofs.write.WordSinkWriteBytes.write_all.Given as goal

abbrev pub invariant-loop-byte : goal.invariant-loop-byte
invariant-loop-byte l =
    Written (spill l.initial.self.area.now) (8 * l.initial.self.at + l.initial.self.part) l.bytes (spill l.self.area.now) l.byte-index
    × (8 * l.self.at + l.self.part ≡ 8 * l.initial.self.at + l.initial.self.part + l.byte-index)
