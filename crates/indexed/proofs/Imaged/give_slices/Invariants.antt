use Rattle.std.proofs.Common.{take}
use Rattle.std.specs.List.{flat_map}
use Rattle.indexed.specs.Gives.{Took}
use Rattle.indexed.specs.Pieces.{slice_pieces}
use Rattle.indexed.proofs.Imaged.give_slices.Given as goal

abbrev pub invariant-loop-k : goal.invariant-loop-k
invariant-loop-k g l = Took g.W.WriteBytes (flat_map slice_pieces (take l.k (g.A.AsBytes.slices l.self.item.now))) l.initial.out l.out
