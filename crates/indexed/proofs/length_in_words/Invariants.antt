use Rattle.std.proofs.Common.{◌≡◌, ◌+◌, ◌≤◌, length, take}
use Rattle.area.specs.Slice.{weight}
use Rattle.column.specs.Kind.{CAP}
use Rattle.indexed.proofs.length_in_words.Given as goal

abbrev pub invariant-loop-k : goal.invariant-loop-k
invariant-loop-k g l = let ss = g.A.AsBytes.slices l.item in record { short : l.total ≤ CAP; counted : l.total ≡ 1 + length ss + weight (take l.k ss) }
