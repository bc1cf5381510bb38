use Rattle.std.proofs.Common.{◌≡◌}
use lib.Seq.{paste}
use Rattle.column.specs.Kind.{slot}
use Rattle.indexed.proofs.Imaged.write_slice.Given as goal

abbrev pub invariant-loop-i : goal.invariant-loop-i
invariant-loop-i g l = l.part ≡ paste l.initial.part 0 (slot (g.A.AsBytes.slices l.self.item.now) l.k).words l.i
