use Rattle.std.proofs.Common.{◌∙◌}
use Rattle.offsets.proofs.StridesLemmas.{element-head, element-bounds}
use Rattle.offsets.proofs.head.Head.get.Goals as goal

pub returns-then-i-length : goal.returns-then-i-length
returns-then-i-length g c = element-head c.args.self.stride c.args.self.length (g.R.Index.list c.args.bounds.now) c.args.i c.if-i-length.true

pub returns : goal.returns
returns g c = c.get.ensures ∙ element-bounds c.args.self.stride c.args.self.length (g.R.Index.list c.args.bounds.now) c.args.i c.if-i-length.false
