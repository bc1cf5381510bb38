use Rattle.std.proofs.Common.{sym, ap, ◌∙◌}
use Rattle.column.specs.Column.{push_answer}
use Rattle.tuple.proofs.PairLemmas.{even_pushed, even_taken, not_refused}
use Rattle.tuple.proofs.pair.PairColumn.push.Goals as goal

pub returns-in_err-push-clause-answer : goal.returns-in_err-push-clause-answer
returns-in_err-push-clause-answer g c =
    let k = rw (← c.self.view_is) at (sym c.if-not-takes.false ∙ c.takes.ensures) in
    let taken = even_taken _ _ (g.met.A.Listed.counted c.self.inside.first) (g.met.B.Listed.counted c.self.inside.second) c.self.invariant g.A.Column.takes g.B.Column.takes _ _ c.args.x k in
    absurd (not_refused _ c.push.result c.in_err-push.field-0.0 taken.0 c.push.ensures.answer c.in_err-push.was)

pub returns-in_err-push-clause-after : goal.returns-in_err-push-clause-after
returns-in_err-push-clause-after g c =
    let k = rw (← c.self.view_is) at (sym c.if-not-takes.false ∙ c.takes.ensures) in
    let taken = even_taken _ _ (g.met.A.Listed.counted c.self.inside.first) (g.met.B.Listed.counted c.self.inside.second) c.self.invariant g.A.Column.takes g.B.Column.takes _ _ c.args.x k in
    absurd (not_refused _ c.push.result c.in_err-push.field-0.0 taken.0 c.push.ensures.answer c.in_err-push.was)

pub invariant_of-self-2 : goal.invariant_of-self-2
invariant_of-self-2 g c =
    let k = rw (← c.self.view_is) at (sym c.if-not-takes.false ∙ c.takes.ensures) in
    (even_pushed _ _ (g.met.A.Listed.counted c.self.inside.first) (g.met.B.Listed.counted c.self.inside.second) c.self.invariant g.A.Column.takes g.B.Column.takes _ _ c.args.x k _ _ (g.met.A.Listed.counted c.push.new.self) (g.met.B.Listed.counted c.push-2.new.self) c.push.ensures.after c.push-2.ensures.after).0

pub returns-clause-answer : goal.returns-clause-answer
returns-clause-answer g c =
    let k = rw (← c.self.view_is) at (sym c.if-not-takes.false ∙ c.takes.ensures) in
    let taken = even_taken _ _ (g.met.A.Listed.counted c.self.inside.first) (g.met.B.Listed.counted c.self.inside.second) c.self.invariant g.A.Column.takes g.B.Column.takes _ _ c.args.x k in
    rw (← c.self.view_is, ← k) (c.push-2.ensures.answer ∙ ap push_answer taken.1)

pub returns-clause-after : goal.returns-clause-after
returns-clause-after g c =
    let k = rw (← c.self.view_is) at (sym c.if-not-takes.false ∙ c.takes.ensures) in
    rw (← c.self.view_is)
    ((even_pushed _ _ (g.met.A.Listed.counted c.self.inside.first) (g.met.B.Listed.counted c.self.inside.second) c.self.invariant g.A.Column.takes g.B.Column.takes _ _ c.args.x k _ _ (g.met.A.Listed.counted c.push.new.self) (g.met.B.Listed.counted c.push-2.new.self) c.push.ensures.after c.push-2.ensures.after).1)
