use Rattle.std.proofs.Common.{arith}
use Rattle.std.proofs.lemmas.Slice.Zip.{length-zip}
use Rattle.tuple.proofs.FormLemmas.{apart, list_sides}
use Rattle.tuple.proofs.form.PairFromBytes.form_len.Goals as goal

pub returns : goal.returns
returns g c ws s =
    let b = apart g.A.ReadForm g.B.ReadForm g.A.Kind.format g.B.Kind.format c.args.form.now ws s in
    rw (← list_sides g.A.Kind.format g.B.Kind.format _ _ s.keeps.count b.level, length-zip) (omega (arith, c.form_len.ensures ws b.left, b.level))
