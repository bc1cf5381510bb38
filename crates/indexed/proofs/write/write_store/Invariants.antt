use Rattle.std.proofs.Common.{map, take}
use Rattle.area.specs.Digits.{digits}
use Rattle.indexed.specs.Gives.{Took}
use Rattle.indexed.proofs.write.write_store.Given as goal

abbrev pub invariant-loop-i : goal.invariant-loop-i
invariant-loop-i g l = Took g.W.WriteBytes (take l.i (map (digits 256 8) (g.S.Store.words l.store))) l.initial.out l.out
