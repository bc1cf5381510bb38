use Rattle.std.proofs.Common.{Err, sym, ap, ◌∙◌, arith}
use Rattle.column.proofs.ColumnLemmas.{element_at_lem, element_past}
use Rattle.tuple.specs.Empties.{empties_list}
use Rattle.tuple.proofs.empties.EmptiesIndex.get.Goals as goal

pub returns-then-i-len : goal.returns-then-i-len
returns-then-i-len c = ap Err c.at_start.ensures ∙ sym (element_past (empties_list c.args.self.now.count) c.args.i (omega (arith, c.len.ensures, c.if-i-len.true)))

pub returns : goal.returns
returns c = sym (element_at_lem (empties_list c.args.self.now.count) c.args.i tt (omega (arith, c.len.ensures, c.if-i-len.false)))
