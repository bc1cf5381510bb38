-- The form of the words below, then the tail's place and the tail, and whether the list is in bounds.
use Rattle.std.proofs.Common.{Err, ap, ◌∙◌}
use Rattle.std.proofs.lemmas.Result.{err_from_is_err_and}
use Rattle.boolean.proofs.FormLemmas.{bools_made, no_tail, too_long}
use Rattle.boolean.proofs.form.BoolsFromBytes.form.Goals as goal

pub returns-in_err-tail : goal.returns-in_err-tail
returns-in_err-tail g c t z =
    let d = c.args.image.now in
    let ws = g.S.Store.words d.store in
    let r = err_from_is_err_and c.from_residual-in_err-tail.result c.from_residual-in_err-tail.ensures.1 in
    rw (r.1 ∙ ap Err r.2)
    (no_tail ws d.asked (g.met.S.Store.whole d.store) g.C.ReadForm.slices g.C.ReadForm.kept g.C.Kind.format c.args.at t z c.in_ok-values.values c.in_ok-values.ensures
    c.slice_count.result c.saturating_add.result c.slice_count.ensures c.saturating_add.ensures c.in_ok-place.place c.in_ok-place.ensures.answer
    c.in_err-tail.field-0.0 (rw c.store.ensures at c.in_err-tail.ensures))

pub returns-then-len-gt-MAX_LEN : goal.returns-then-len-gt-MAX_LEN
returns-then-len-gt-MAX_LEN g c t z =
    let d = c.args.image.now in
    let ws = g.S.Store.words d.store in
    too_long ws d.asked (g.met.S.Store.whole d.store) g.C.ReadForm.slices g.C.ReadForm.kept g.C.Kind.format c.args.at t z c.in_ok-values.values c.in_ok-values.ensures
    c.slice_count.result c.saturating_add.result c.slice_count.ensures c.saturating_add.ensures c.in_ok-place.place c.in_ok-place.ensures.answer
    c.in_ok-tail.tail (rw c.store.ensures at c.in_ok-tail.ensures) c.form_len.result c.len.result (c.form_len.ensures ws) c.len.ensures c.if-len-gt-MAX_LEN.true c.at.result c.at.ensures

pub returns : goal.returns
returns g c t z =
    let d = c.args.image.now in
    let ws = g.S.Store.words d.store in
    bools_made ws d.asked (g.met.S.Store.whole d.store) g.C.ReadForm.slices g.C.ReadForm.kept g.C.Kind.format c.args.at t z c.in_ok-values.values c.in_ok-values.ensures
    c.slice_count.result c.saturating_add.result c.slice_count.ensures c.saturating_add.ensures c.in_ok-place.place c.in_ok-place.ensures.answer
    c.in_ok-tail.tail (rw c.store.ensures at c.in_ok-tail.ensures) c.form_len.result c.len.result (c.form_len.ensures ws) c.len.ensures c.if-len-gt-MAX_LEN.false
