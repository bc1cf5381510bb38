-- The slices of the words below, and then the tail's.
use Rattle.std.proofs.Common.{Err, Ok, ap, sym, ◌∙◌}
use Rattle.std.proofs.lemmas.Result.{err_from_is_err_and}
use Rattle.column.specs.Column.{word_in_slice}
use Rattle.column.proofs.SliceAt.{word_first, word_second}
use Rattle.read.proofs.FormLemmas.{counted_given}
use Rattle.boolean.proofs.FormLemmas.{below, word_none, tail-word, tail_first}
use Rattle.boolean.proofs.form.BoolsFromBytes.form_slice_word.Goals as goal

pub returns-in_err-j : goal.returns-in_err-j
returns-in_err-j g c s =
    let b = below g.C.ReadForm.slices g.C.ReadForm.kept g.C.Kind.format c.args.form.now _ s in
    let n = counted_given g.met.C.Kind.laws b.values c.slice_count.result c.slice_count.ensures in
    let p = err_from_is_err_and c.from_residual.result c.from_residual.ensures.1 in
    p.1 ∙ ap Err p.2 ∙ word_none _ _ c.slice_count.result c.args.k n c.args.i _ c.in_err-j.ensures ∙ ap (λ ss. word_in_slice ss c.args.k c.args.i) (sym b.giving)

pub returns-in-First : goal.returns-in-First
returns-in-First g c s =
    let b = below g.C.ReadForm.slices g.C.ReadForm.kept g.C.Kind.format c.args.form.now _ s in
    let n = counted_given g.met.C.Kind.laws b.values c.slice_count.result c.slice_count.ensures in
    c.form_slice_word.ensures b.values
    ∙ word_first _ _ c.slice_count.result _ c.args.k n c.in_ok-j.field-0 c.in_ok-j.ensures c.in-First.j c.args.i c.in-First.is
    ∙ ap (λ ss. word_in_slice ss c.args.k c.args.i) (sym b.giving)

pub returns-in-Second : goal.returns-in-Second
returns-in-Second g c s =
    let b = below g.C.ReadForm.slices g.C.ReadForm.kept g.C.Kind.format c.args.form.now _ s in
    let n = counted_given g.met.C.Kind.laws b.values c.slice_count.result c.slice_count.ensures in
    let j = tail_first c.slice_count.result c.args.k c.in-Second.field-0 (ap Ok (sym c.in-Second.is) ∙ c.in_ok-j.ensures) in
    rw j (c.word.ensures s.keeps.inside ∙ sym (tail-word _ _ s.keeps.inside c.args.i))
    ∙ word_second _ _ c.slice_count.result _ c.args.k n c.in_ok-j.field-0 c.in_ok-j.ensures c.in-Second.field-0 c.args.i c.in-Second.is
    ∙ ap (λ ss. word_in_slice ss c.args.k c.args.i) (sym b.giving)
