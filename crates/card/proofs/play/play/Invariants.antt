use Rattle.std.proofs.Common.{◌≡◌}
use Rattle.card.specs.Records.{records}
use Rattle.card.proofs.PlayLemmas.{Left}
use Rattle.card.proofs.play.play.Given as goal

abbrev pub invariant-loop-item : goal.invariant-loop-item
invariant-loop-item g l =
    (g.C.Column.areas l.table ≡ g.C.Column.areas l.initial.table)
    × Left (g.C.Column.takes (g.C.Column.areas l.initial.table)) g.C.Kind.format.writing l.initial.area (g.C.Index.list l.initial.table) l.initial.lines.items (records l.input)
    (records l.item-iterator.rest.now) (g.C.Index.list l.table) l.lines.items
