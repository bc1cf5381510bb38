use Rattle.std.proofs.Common.{Err, ap, ◌∙◌}
use Rattle.std.proofs.lemmas.Result.{err_from_is_err_and}
use Rattle.tuple.proofs.FormLemmas.{apart, list_sides}
use Rattle.tuple.proofs.PairLemmas.{element-zip}
use Rattle.tuple.proofs.form.PairFromBytes.form_get.Goals as goal

pub returns-in_err-x : goal.returns-in_err-x
returns-in_err-x g c s =
    let b = apart g.A.ReadForm g.B.ReadForm g.A.Kind.format g.B.Kind.format c.args.form.now _ s in
    let p = err_from_is_err_and c.from_residual.result c.from_residual.ensures.1 in
    rw (← list_sides g.A.Kind.format g.B.Kind.format _ _ s.keeps.count b.level, element-zip _ _ c.args.i b.level, ← c.in_err-x.ensures b.left) (p.1 ∙ ap Err p.2)

pub returns-in_err-y : goal.returns-in_err-y
returns-in_err-y g c s =
    let b = apart g.A.ReadForm g.B.ReadForm g.A.Kind.format g.B.Kind.format c.args.form.now _ s in
    let p = err_from_is_err_and c.from_residual-in_err-y.result c.from_residual-in_err-y.ensures.1 in
    rw (← list_sides g.A.Kind.format g.B.Kind.format _ _ s.keeps.count b.level, element-zip _ _ c.args.i b.level, ← c.in_ok-x.ensures b.left, ← c.in_err-y.ensures b.right) (p.1 ∙ ap Err p.2)

pub returns : goal.returns
returns g c s =
    let b = apart g.A.ReadForm g.B.ReadForm g.A.Kind.format g.B.Kind.format c.args.form.now _ s in
    rw (← list_sides g.A.Kind.format g.B.Kind.format _ _ s.keeps.count b.level, element-zip _ _ c.args.i b.level, ← c.in_ok-x.ensures b.left, ← c.in_ok-y.ensures b.right)
