use Rattle.std.proofs.Common.{◌≡◌, ◌++◌, map, take}
use Rattle.card.specs.declared.line.Line.TheVariants.{Word}
use Rattle.card.proofs.play.image_lines.Given as goal

abbrev pub invariant-loop-word : goal.invariant-loop-word
invariant-loop-word g l = l.lines.items ≡ l.initial.lines.items ++ map Word (take l.word-index l.word-items)
