use Rattle.std.proofs.Common.{◌≡◌, ◌+◌, take}
use lib.Seq.{paste}
use Rattle.area.specs.Slice.{weight}
use Rattle.indexed.specs.Image.{words_of}
use Rattle.indexed.proofs.Imaged.write_slices.Given as goal

abbrev pub invariant-loop-k : goal.invariant-loop-k
invariant-loop-k g l =
    let ss = take l.k (g.A.AsBytes.slices l.self.item.now) in
    record { this : l.place ≡ l.at + weight ss; written : l.part ≡ paste l.initial.part l.at (words_of ss) (weight ss) }
