use Rattle.std.proofs.Common.{◌≡◌, ◌+◌, map, take, slice_index}
use Rattle.area.specs.Digits.{digits}
use Rattle.indexed.specs.Gives.{Took}
use Rattle.indexed.specs.Image.{index}
use Rattle.indexed.proofs.Imaged.give_index.Given as goal

abbrev pub invariant-loop-k : goal.invariant-loop-k
invariant-loop-k g l =
    let ws = index (g.A.AsBytes.slices l.self.item.now) in
    record { this : l.end ≡ slice_index ws l.k; took : Took g.W.WriteBytes (take (l.k + 1) (map (digits 256 8) ws)) l.fn.out l.out }
