use Rattle.std.proofs.Common.{length, ◌∙◌, arith}
use Rattle.column.specs.Column.{cells}
use Rattle.offsets.proofs.StridesLemmas.{some_taken}
use Rattle.offsets.proofs.strides.StridesColumn.takes.Goals as goal

pub returns-then-is_some : goal.returns-then-is_some
returns-then-is_some c =
    let column = c.args.self.now in
    c.if-is_some.true ∙ some_taken column (cells (length column.bounds.cells.now)) c.args.x c.grown.result c.grown.ensures (omega (arith, c.len.ensures)) c.if-is_some.ensures
