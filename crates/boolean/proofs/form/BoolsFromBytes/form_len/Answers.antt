-- At most L elements, so the count is theirs.
use Rattle.std.proofs.Common.{arith}
use Rattle.boolean.proofs.FormLemmas.{below, length_list}
use Rattle.boolean.proofs.form.BoolsFromBytes.form_len.Goals as goal

pub returns : goal.returns
returns g c ws s =
    let b = below g.C.ReadForm.slices g.C.ReadForm.kept g.C.Kind.format c.args.form.now ws s in
    omega (arith, c.len.ensures, c.form_len.ensures ws b.values, length_list _ _ _ _ _ b)
