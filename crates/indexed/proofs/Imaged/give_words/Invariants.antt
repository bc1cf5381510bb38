use Rattle.std.proofs.Common.{take}
use Rattle.area.specs.Digits.{chunks}
use Rattle.area.specs.Slice.{words_for, contents}
use Rattle.column.specs.Kind.{slot}
use Rattle.indexed.specs.Gives.{Took}
use Rattle.indexed.proofs.Imaged.give_words.Given as goal

abbrev pub invariant-loop-i : goal.invariant-loop-i
invariant-loop-i g l =
    let s = slot (g.A.AsBytes.slices l.self.item.now) l.k in
    Took g.W.WriteBytes (take l.i (chunks 8 (words_for s.bytes) (contents s))) l.initial.out l.out
