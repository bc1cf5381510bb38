use Rattle.tuple.proofs.PairLemmas.{even_takes}
use Rattle.tuple.proofs.pair.PairColumn.takes.Goals as goal

pub returns-then-takes : goal.returns-then-takes
returns-then-takes g c =
    rw (← c.self.view_is, even_takes _ _ (g.met.A.Listed.counted c.self.inside.first) (g.met.B.Listed.counted c.self.inside.second) c.self.invariant g.A.Column.takes g.B.Column.takes _ _ c.args.x, ← c.if-takes.ensures) c.takes-then-takes.ensures

pub returns-else-takes : goal.returns-else-takes
returns-else-takes g c =
    rw (← c.self.view_is, even_takes _ _ (g.met.A.Listed.counted c.self.inside.first) (g.met.B.Listed.counted c.self.inside.second) c.self.invariant g.A.Column.takes g.B.Column.takes _ _ c.args.x, ← c.if-takes.ensures, c.if-takes.false)
