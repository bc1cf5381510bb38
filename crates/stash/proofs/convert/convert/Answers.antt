use Rattle.std.proofs.Common.{Ok, sym, subst}
use Rattle.stash.specs.Written.{TableWritten}
use Rattle.stash.proofs.ConvertLemmas.{owed}
use Rattle.stash.proofs.convert.convert.Goals as goal

pub returns-clause-claim : goal.returns-clause-claim
returns-clause-claim g c =
    let e = sym c.in_ok-make_typed.ensures.answer in
    let w = subst (λ V. TableWritten g.W.WriteBytes g.C.Kind.format V c.args.sink.now c.write.new.sink (Ok tt)) c.make_typed.ensures.after c.in_ok-write.ensures in
    (e, (w, owed g.C.Kind.format g.C.Column.takes g.C.Elem.Value.fits g.met.C.Kind.laws g.W.WriteBytes _ (g.C.Column.areas c.args.ready) c.args.sink.now c.write.new.sink e w))
