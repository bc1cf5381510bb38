-- The first side's form, then the second's, and then whether their lists have one length.
use Rattle.std.proofs.Common.{◌≡◌, ◌+◌, Err, ap, ◌∙◌, arith}
use Rattle.std.proofs.lemmas.Result.{err_from_is_err_and}
use Rattle.read.proofs.FormLemmas.{there_few}
use Rattle.tuple.proofs.FormLemmas.{even, second_refused, uneven}
use Rattle.tuple.proofs.form.PairFromBytes.form.Goals as goal

pub returns-in_err-second : goal.returns-in_err-second
returns-in_err-second g c t z =
    let d = c.args.image.now in
    let ws = g.S.Store.words d.store in
    let F = g.A.Kind.format in
    let G = g.B.Kind.format in
    let e : c.saturating_add.result ≡ c.args.at + F.slots = omega (arith, there_few ws d.asked c.args.at (F.slots + G.slots) t, c.slice_count.ensures) in
    let p = err_from_is_err_and c.from_residual-in_err-second.result c.from_residual-in_err-second.ensures.1 in
    second_refused g.A.ReadForm g.B.ReadForm F G ws d.asked (g.met.S.Store.whole d.store) c.args.at _ t z e _ c.in_ok-first.ensures _ c.in_err-second.ensures _ (p.1 ∙ ap Err p.2)

pub returns-then-form_len : goal.returns-then-form_len
returns-then-form_len g c t z =
    let d = c.args.image.now in
    let ws = g.S.Store.words d.store in
    let F = g.A.Kind.format in
    let G = g.B.Kind.format in
    let e : c.saturating_add.result ≡ c.args.at + F.slots = omega (arith, there_few ws d.asked c.args.at (F.slots + G.slots) t, c.slice_count.ensures) in
    uneven g.A.ReadForm g.B.ReadForm F G ws d.asked (g.met.S.Store.whole d.store) c.args.at _ t z e _ c.in_ok-first.ensures _ c.in_ok-second.ensures _ _ c.form_len.ensures c.form_len-2.ensures c.if-form_len.true _ c.at.ensures

pub returns : goal.returns
returns g c t z =
    let d = c.args.image.now in
    let ws = g.S.Store.words d.store in
    let F = g.A.Kind.format in
    let G = g.B.Kind.format in
    let e : c.saturating_add.result ≡ c.args.at + F.slots = omega (arith, there_few ws d.asked c.args.at (F.slots + G.slots) t, c.slice_count.ensures) in
    even g.A.ReadForm g.B.ReadForm F G ws d.asked (g.met.S.Store.whole d.store) c.args.at _ t z e _ c.in_ok-first.ensures _ c.in_ok-second.ensures _ _ c.form_len.ensures c.form_len-2.ensures c.if-form_len.false
