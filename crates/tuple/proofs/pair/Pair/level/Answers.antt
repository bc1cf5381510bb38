use Rattle.tuple.specs.PairLaws.{same_length}
use Rattle.tuple.proofs.PairLemmas.{even_zip}
use Rattle.tuple.proofs.pair.Pair.level.Goals as goal

pub returns : goal.returns
returns g c =
    let p = g.met.A.Listed.counted c.self.inside.first in
    let q = g.met.B.Listed.counted c.self.inside.second in
    let e = c.self.invariant in
    rw (← c.self.view_is) (record { even = e; level = same_length _ _ p q e; list = even_zip _ _ p q e })
