use Rattle.read.specs.FormLaws.{passed}
use Rattle.boolean.proofs.FormLemmas.{seen}
use Rattle.boolean.proofs.form.bools_in.Goals as goal

pub invariant_of-values : goal.invariant_of-values
invariant_of-values g c = let s = (seen g.C.ReadForm.slices g.C.ReadForm.kept g.C.Kind.format _ _ c.args.view.now.stands).values in record { passed = passed s; stands = s }

pub invariant_of-result : goal.invariant_of-result
invariant_of-result g c =
    let b = seen g.C.ReadForm.slices g.C.ReadForm.kept g.C.Kind.format _ _ c.args.view.now.stands in
    record { few = b.few; clean = b.clean; short = b.short }

pub returns : goal.returns
returns g c =
    let b = seen g.C.ReadForm.slices g.C.ReadForm.kept g.C.Kind.format _ _ c.args.view.now.stands in
    record { list = b.list; slices = b.giving; place = b.inside }
