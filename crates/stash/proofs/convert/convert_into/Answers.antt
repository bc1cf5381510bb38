use Rattle.std.proofs.Common.{Ok, sym, subst}
use Rattle.stash.specs.Written.{Reloads}
use Rattle.stash.proofs.ConvertLemmas.{owed_into}
use Rattle.stash.proofs.convert.convert_into.Goals as goal

pub returns-clause-claim : goal.returns-clause-claim
returns-clause-claim g c =
    let e = sym c.in_ok-make_typed.ensures.answer in
    let w = subst (λ V. Reloads g.C.Kind.format V c.args.area.now c.reload.new.area (Ok c.in_ok-reload.field-0)) c.make_typed.ensures.after c.in_ok-reload.ensures in
    (e, (w, owed_into g.C.Kind.format g.C.Column.takes g.C.Elem.Value.fits g.met.C.Kind.laws _ (g.C.Column.areas c.args.column) c.args.area.now c.reload.new.area _ e w))
