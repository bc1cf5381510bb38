use Rattle.std.proofs.Common.{◌*◌, ◌^◌, ◌<◌, ap, ⊎_elim, arith}
use Rattle.std.proofs.lemmas.Result.{err_from_is_err_and}
use Rattle.offsets.proofs.FormLemmas.{behind_refused, bounds_form, checked_none, checked_some, form_failed, form_made, found, head_there, head-word, sized-behind, too_far, too_long}
use Rattle.offsets.proofs.form.StridesFromBytes.form.Goals as goal

pub overflow_add-at : goal.overflow_add-at
overflow_add-at g c =
    let d = c.args.image.now in
    let l = found (g.S.Store.words d.store) d.asked c.args.at _ _ c.in_ok-place.place c.in_ok-place.ensures.answer in
    omega arith

pub returns-in_err-bounds : goal.returns-in_err-bounds
returns-in_err-bounds g c t z =
    let d = c.args.image.now in
    let ws = g.S.Store.words d.store in
    let p = err_from_is_err_and c.from_residual-in_err-bounds.result c.from_residual-in_err-bounds.ensures.1 in
    rw (p.1, p.2) (behind_refused ws d.asked c.args.at t z _ (c.in_err-bounds.ensures (omega arith) (sized-behind ws d.asked c.args.at t z)))

pub returns-in_err-stride : goal.returns-in_err-stride
returns-in_err-stride g c t z =
    let d = c.args.image.now in
    let ws = g.S.Store.words d.store in
    head_there ws d.asked c.args.at t z c.in_ok-place.place c.in_ok-place.ensures.answer (g.S.Store.words c.store.result.now) (ap g.S.Store.words c.store.ensures) _ _ c.from_residual-in_err-stride.result (omega arith) c.in_err-stride.ensures

pub returns-in_err-length : goal.returns-in_err-length
returns-in_err-length g c t z =
    let d = c.args.image.now in
    let ws = g.S.Store.words d.store in
    head_there ws d.asked c.args.at t z c.in_ok-place.place c.in_ok-place.ensures.answer (g.S.Store.words c.store-2.result.now) (ap g.S.Store.words c.store-2.ensures) _ _ c.from_residual-in_err-length.result (omega arith) c.in_err-length.ensures

pub returns-then-is_none : goal.returns-then-is_none
returns-then-is_none g c t z =
    let d = c.args.image.now in
    let ws = g.S.Store.words d.store in
    let a = c.args.at in
    let p = c.in_ok-place.place in
    let q = c.in_ok-place.ensures.answer in
    let b = c.in_ok-bounds.bounds in
    let whole = g.met.S.Store.whole d.store in
    let r = c.in_ok-bounds.ensures (omega arith) (sized-behind ws d.asked a t z) in
    let l = c.form_len.ensures ws (bounds_form ws d.asked a t z whole b r) in
    let x = c.in_ok-stride.stride in
    let n = c.in_ok-length.length in
    let u = head-word ws d.asked a t z p q (g.S.Store.words c.store.result.now) (ap g.S.Store.words c.store.ensures) 0 x c.in_ok-stride.ensures in
    let v = head-word ws d.asked a t z p q (g.S.Store.words c.store-2.result.now) (ap g.S.Store.words c.store-2.ensures) 1 n c.in_ok-length.ensures in
    form_failed ws d.asked a t z whole b r x n u v c.at.result
    (⊎_elim
    (λ h. too_far ws d.asked a t z whole b r x n u v (let m = checked_none c.checked_mul.result (x * n < 2 ^ 64) (x * n) c.is_none.result c.checked_mul.ensures c.is_none.ensures h in omega arith))
    (λ h. too_long ws d.asked a t z whole b r x n u v (omega (arith, c.len-count.ensures, l, h.1)))
    c.then-is_none.either)
    c.at.ensures

pub returns : goal.returns
returns g c t z =
    let d = c.args.image.now in
    let ws = g.S.Store.words d.store in
    let a = c.args.at in
    let p = c.in_ok-place.place in
    let q = c.in_ok-place.ensures.answer in
    let b = c.in_ok-bounds.bounds in
    let whole = g.met.S.Store.whole d.store in
    let r = c.in_ok-bounds.ensures (omega arith) (sized-behind ws d.asked a t z) in
    let l = c.form_len.ensures ws (bounds_form ws d.asked a t z whole b r) in
    let x = c.in_ok-stride.stride in
    let n = c.in_ok-length.length in
    form_made ws d.asked a t z whole b r x n
    (head-word ws d.asked a t z p q (g.S.Store.words c.store.result.now) (ap g.S.Store.words c.store.ensures) 0 _ c.in_ok-stride.ensures)
    (head-word ws d.asked a t z p q (g.S.Store.words c.store-2.result.now) (ap g.S.Store.words c.store-2.ensures) 1 _ c.in_ok-length.ensures)
    p q
    (checked_some c.checked_mul.result (x * n < 2 ^ 64) (x * n) c.is_none.result c.checked_mul.ensures c.is_none.ensures c.if-is_none.false)
    (omega (arith, c.len-count.ensures, l))
