use Rattle.std.proofs.Common.{ap, refl}
use Rattle.std.proofs.lemmas.Result.{err_from_is_err_and}
use Rattle.read.proofs.AdmissionLemmas.{admitted_list, all_asked, form_given, form_unread, size-admitted, there_all}
use Rattle.read.proofs.FormLemmas.{size-passed}
use Rattle.read.proofs.validate.validate.Goals as goal

pub returns-in_err-sized-clause-admits : goal.returns-in_err-sized-clause-admits
returns-in_err-sized-clause-admits g c =
    let F = g.K.Kind.format in
    let ws = g.S.Store.words c.args.store in
    let h = c.in_ok-image.ensures in
    let q = ap (λ s. s.now) h.1 in
    let t = there_all F ws c.slice_count.result c.slice_count.ensures h.0 in
    let p = err_from_is_err_and c.from_residual-in_err-sized.result c.from_residual-in_err-sized.ensures.1 in
    let e = rw q at c.in_err-sized.ensures in
    rw (p.1, p.2) (size-admitted F ws c.slice_count.result c.slice_count.ensures h.0 _ (e t))

pub returns-in_err-form-clause-admits : goal.returns-in_err-form-clause-admits
returns-in_err-form-clause-admits g c =
    let F = g.K.Kind.format in
    let ws = g.S.Store.words c.args.store in
    let h = c.in_ok-image.ensures in
    let q = ap (λ s. s.now) h.1 in
    let t = there_all F ws c.slice_count.result c.slice_count.ensures h.0 in
    let p = err_from_is_err_and c.from_residual-in_err-form.result c.from_residual-in_err-form.ensures.1 in
    let z = size-passed 0 _ c.in_ok-sized.field-0 ((rw q at c.in_ok-sized.ensures) t) in
    let e = rw q at c.in_err-form.ensures in
    rw (p.1, p.2) (form_unread F ws c.slice_count.result c.slice_count.ensures h.0 g.K.ReadForm.slices g.K.ReadForm.kept z _ (e t z))

pub invariant_of-result : goal.invariant_of-result
invariant_of-result g c =
    let F = g.K.Kind.format in
    let ws = g.S.Store.words c.args.store in
    let n = c.slice_count in
    let h = c.in_ok-image.ensures in
    let q = ap (λ s. g.S.Store.words s.now) h.1 in
    let f = form_given F ws n.result n.ensures h.0 g.K.ReadForm.slices g.K.ReadForm.kept _ q (g.met.S.Store.whole c.args.store) c.in_ok-sized.field-0 c.in_ok-sized.ensures c.in_ok-form.form c.in_ok-form.ensures in
    record { passed = f.0.passed; stands = ∣ f.0 ∣₁; whole = f.1; asked = all_asked F ws n.result n.ensures h.0 }

pub returns : goal.returns
returns g c =
    let F = g.K.Kind.format in
    let ws = g.S.Store.words c.args.store in
    let n = c.slice_count in
    let h = c.in_ok-image.ensures in
    let q = ap (λ s. g.S.Store.words s.now) h.1 in
    let f = form_given F ws n.result n.ensures h.0 g.K.ReadForm.slices g.K.ReadForm.kept _ q (g.met.S.Store.whole c.args.store) c.in_ok-sized.field-0 c.in_ok-sized.ensures c.in_ok-form.form c.in_ok-form.ensures in
    record { admits = (refl, admitted_list ws f.0.passed f.1 (all_asked F ws n.result n.ensures h.0)); stands = f.0 }
