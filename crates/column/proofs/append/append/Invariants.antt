use Rattle.std.proofs.Common.{◌≡◌}
use Rattle.column.proofs.AppendLemmas.{Added}
use Rattle.column.proofs.append.append.Given as goal

abbrev pub invariant-loop-i : goal.invariant-loop-i
invariant-loop-i g l =
    (g.C.Column.areas l.dst ≡ g.C.Column.areas l.initial.dst)
    × Added (g.C.Column.takes (g.C.Column.areas l.initial.dst)) (g.C.Index.list l.initial.dst) (g.R.Index.list l.src) l.a l.b l.i (g.C.Index.list l.dst)
