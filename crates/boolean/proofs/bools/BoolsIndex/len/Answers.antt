use Rattle.std.proofs.Common.{arith}
use Rattle.boolean.specs.BoolsLaws.{length-held}
use Rattle.boolean.proofs.bools.BoolsIndex.len.Goals as goal

pub returns : goal.returns
returns g c = let bools = c.args.self.now in omega (arith, c.len.ensures, g.met.C.Listed.counted bools.values, bools.short, length-held (g.C.Index.list bools.values) bools.tail.count bools.tail.word)
