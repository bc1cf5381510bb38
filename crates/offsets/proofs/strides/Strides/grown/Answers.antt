use Rattle.std.proofs.Common.{arith}
use Rattle.offsets.proofs.StridesLemmas.{own_ends, own_more}
use Rattle.offsets.proofs.strides.Strides.grown.Goals as goal

pub returns-then-continues : goal.returns-then-continues
returns-then-continues c = own_more c.args.self.now c.args.x c.if-length-eq0.false c.if-continues.ensures

pub returns : goal.returns
returns c = own_ends c.args.self.now c.args.x c.if-length-eq0.false c.if-continues.ensures (omega arith)
