use Rattle.std.proofs.Common.{◌∙◌}
use Rattle.tuple.proofs.PairLemmas.{even_length}
use Rattle.tuple.proofs.pair.PairIndex.len.Goals as goal

pub returns : goal.returns
returns g c = rw (← c.self.view_is) (c.len.ensures ∙ even_length _ _ (g.met.A.Listed.counted _) (g.met.B.Listed.counted _) c.self.invariant)
