use Rattle.std.proofs.Common.{◌≡◌, rules, refl, ◌∙◌}
use Rattle.card.proofs.PlayLemmas.{left_more, left_none, left_refused}
use Rattle.card.proofs.RunsLemmas.{runs}
use Rattle.card.proofs.play.play.Goals as goal

pub loop-item-init : goal.loop-item-init
loop-item-init g c =
    let e : c.into_iter-item-iterator.result.rest.now ≡ c.args.input.now = search rules in
    (refl, rw e (record { list = refl; lines = refl }))

pub loop-item-preserved-in-Continue-1 : goal.loop-item-preserved-in-Continue-1
loop-item-preserved-in-Continue-1 g c = (
  c.step.ensures.same ∙ c.loop-item.invariant.0,
  left_more (g.C.Column.takes (g.C.Column.areas c.args.table.now)) g.C.Kind.format.writing c.args.area.now _ (g.C.Index.list c.loop-item.table) _ c.loop-item.lines.items _ _
      c.loop-item.item-iterator.rest.now c.next.new.self.rest.now c.loop-item.item-iterator.read c.next.new.self.read c.loop-item.invariant.1
      c.in-Ok.record _ (search rules) (search rules) (search rules),
)

pub loop-item-preserved : goal.loop-item-preserved
loop-item-preserved g c = (
  c.loop-item.invariant.0,
  left_refused (g.C.Column.takes (g.C.Column.areas c.args.table.now)) g.C.Kind.format.writing c.args.area.now _ (g.C.Index.list c.loop-item.table) _ c.loop-item.lines.items _ _
      c.loop-item.item-iterator.rest.now c.next.new.self.rest.now c.loop-item.item-iterator.read c.next.new.self.read c.loop-item.invariant.1
      c.in-Err.fault (search rules) (search rules),
)

pub returns-clause-after : goal.returns-clause-after
returns-clause-after g c =
    (left_none (g.C.Column.takes (g.C.Column.areas c.args.table.now)) g.C.Kind.format.writing c.args.area.now _ (g.C.Index.list c.loop-item.table) _ c.loop-item.lines.items _
    c.loop-item.item-iterator.rest.now c.loop-item.item-iterator.read c.loop-item.invariant.1 (search rules)).0

pub returns-clause-lines : goal.returns-clause-lines
returns-clause-lines g c =
    (left_none (g.C.Column.takes (g.C.Column.areas c.args.table.now)) g.C.Kind.format.writing c.args.area.now _ (g.C.Index.list c.loop-item.table) _ c.loop-item.lines.items _
    c.loop-item.item-iterator.rest.now c.loop-item.item-iterator.read c.loop-item.invariant.1 (search rules)).1

pub returns-clause-same : goal.returns-clause-same
returns-clause-same g c = c.loop-item.invariant.0

pub returns-clause-runs : goal.returns-clause-runs
returns-clause-runs g c = runs _ _ _
