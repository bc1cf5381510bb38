use Rattle.std.proofs.Common.{Ok, Err, refl, rules}
use Rattle.std.proofs.lemmas.Result.{err_from_is_err_and}
use Rattle.stash.proofs.ReloadLemmas.{landed}
use Rattle.stash.proofs.table.Stash+C+B+A.reload.Goals as goal

pub returns-in_err-write : goal.returns-in_err-write
returns-in_err-write g c =
    let p = err_from_is_err_and c.from_residual.result c.from_residual.ensures.1 in
    rw (p.1, p.2, ← c.new-sink.ensures.start.1) (landed g.C.Kind.format _ _ c.write.new.sink c.new-sink.ensures.start.0 (Err c.in_err-write.field-0.0) c.in_err-write.ensures c.write.new.sink.sink.now.at _ (λ _. refl) (search rules))

pub returns : goal.returns
returns g c =
    rw (c.count.ensures, ← c.new-sink.ensures.start.1) (landed g.C.Kind.format _ _ c.write.new.sink c.new-sink.ensures.start.0 (Ok c.in_ok-write.field-0) c.in_ok-write.ensures _ _ (search rules) (search rules))
