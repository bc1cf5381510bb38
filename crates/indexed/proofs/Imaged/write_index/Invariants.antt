use Rattle.std.proofs.Common.{◌≡◌, ◌+◌, slice_index}
use lib.Seq.{paste}
use Rattle.indexed.specs.Image.{index}
use Rattle.indexed.proofs.Imaged.write_index.Given as goal

abbrev pub invariant-loop-k : goal.invariant-loop-k
invariant-loop-k g l = let ws = index (g.A.AsBytes.slices l.self.item.now) in record { this : l.end ≡ slice_index ws l.k; written : l.part ≡ paste l.fn.part 0 ws (l.k + 1) }
