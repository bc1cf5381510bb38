use Rattle.std.proofs.Common.{arith}
use Rattle.offsets.proofs.StridesLemmas.{length-list, length_run}
use Rattle.offsets.proofs.strides.StridesIndex.len.Goals as goal

pub returns : goal.returns
returns c =
    let column = c.args.self.now in
    omega (arith, c.len.ensures, c.len-2.ensures, column.short, length_run column, length-list column)
