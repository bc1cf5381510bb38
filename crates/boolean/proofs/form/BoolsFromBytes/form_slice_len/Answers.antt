-- The slices of the words below, and then the tail's.
use Rattle.std.proofs.Common.{Err, Ok, ap, sym, ◌∙◌, arith}
use Rattle.std.proofs.lemmas.Result.{err_from_is_err_and}
use Rattle.column.specs.Column.{slice_length}
use Rattle.column.proofs.SliceAt.{length_first, length_second}
use Rattle.read.proofs.FormLemmas.{counted_given}
use Rattle.boolean.proofs.FormLemmas.{below, length_none, tail-length, tail_first}
use Rattle.boolean.proofs.form.BoolsFromBytes.form_slice_len.Goals as goal

pub returns-in_err-j : goal.returns-in_err-j
returns-in_err-j g c ws s =
    let b = below g.C.ReadForm.slices g.C.ReadForm.kept g.C.Kind.format c.args.form.now ws s in
    let n = counted_given g.met.C.Kind.laws b.values c.slice_count.result c.slice_count.ensures in
    let p = err_from_is_err_and c.from_residual.result c.from_residual.ensures.1 in
    p.1 ∙ ap Err p.2 ∙ length_none _ _ c.slice_count.result c.args.k n _ c.in_err-j.ensures ∙ ap (λ ss. slice_length ss c.args.k) (sym b.giving)

pub returns-in-First : goal.returns-in-First
returns-in-First g c ws s =
    let b = below g.C.ReadForm.slices g.C.ReadForm.kept g.C.Kind.format c.args.form.now ws s in
    let n = counted_given g.met.C.Kind.laws b.values c.slice_count.result c.slice_count.ensures in
    c.form_slice_len.ensures ws b.values
    ∙ length_first _ _ c.slice_count.result _ c.args.k n c.in_ok-j.field-0 c.in_ok-j.ensures c.in-First.j c.in-First.is
    ∙ ap (λ ss. slice_length ss c.args.k) (sym b.giving)

pub returns-in-Second : goal.returns-in-Second
returns-in-Second g c ws s =
    let b = below g.C.ReadForm.slices g.C.ReadForm.kept g.C.Kind.format c.args.form.now ws s in
    let n = counted_given g.met.C.Kind.laws b.values c.slice_count.result c.slice_count.ensures in
    let j = tail_first c.slice_count.result c.args.k c.in-Second.field-0 (ap Ok (sym c.in-Second.is) ∙ c.in_ok-j.ensures) in
    rw j (ap Ok (omega (arith, c.saturating_mul.ensures, c.words.ensures, s.keeps.inside.short)) ∙ sym (tail-length _ _ s.keeps.inside))
    ∙ length_second _ _ c.slice_count.result _ c.args.k n c.in_ok-j.field-0 c.in_ok-j.ensures c.in-Second.field-0 c.in-Second.is
    ∙ ap (λ ss. slice_length ss c.args.k) (sym b.giving)
