-- The count is the word at the slice's place.
use Rattle.std.proofs.Common.{◌≡◌, ◌^◌, ◌<◌, [], ◌∷◌, Err, rules, sym, ap, ◌∙◌, arith}
use Rattle.std.proofs.lemmas.Bool.{le-leb, lt-leb}
use Rattle.column.specs.Kind.{slot, word_of}
use Rattle.column.specs.KindLemmas.{least_words_lem}
use Rattle.decode.specs.Decode.{slice_in}
use Rattle.read.specs.Form.{slices_within}
use Rattle.read.proofs.PlaceLemmas.{bounds_err, bounds_ok, no_word, place, slices_last, word_there}
use Rattle.column.proofs.ColumnLemmas.{mapped}
use Rattle.tuple.specs.Form.{EmptiesKept}
use Rattle.tuple.proofs.FormLemmas.{count_is, no_count}
use Rattle.std.proofs.lemmas.Result.{err_from_is_err_and}
use Rattle.tuple.proofs.form.EmptiesFromBytes.form.Goals as goal

pub returns-in_err-word : goal.returns-in_err-word
returns-in_err-word g c t z =
    let d = c.args.image.now in
    let f = g.S.Store.words in
    let p = place (f d.store) d.asked c.args.at 1 t 0 c.args.at (omega arith) (omega arith) c.in_ok-place.place c.in_ok-place.ensures.answer in
    absurd (no_word (f d.store) d.asked c.args.at 1 t 0 c.in_ok-place.place p _ (ap f c.store.ensures) 0 c.in_err-word.field-0.0 c.in_err-word.ensures (omega (arith, least_words_lem 1 0 (slot (slices_within (f d.store) c.args.at 1) 0) z)))

pub returns-in_err-count : goal.returns-in_err-count
returns-in_err-count g c t z =
    let d = c.args.image.now in
    let f = g.S.Store.words in
    let p = place (f d.store) d.asked c.args.at 1 t 0 c.args.at (omega arith) (omega arith) c.in_ok-place.place c.in_ok-place.ensures.answer in
    let w = word_there (f d.store) d.asked c.args.at 1 t 0 c.in_ok-place.place p _ (ap f c.store.ensures) 0 c.in_ok-word.word c.in_ok-word.ensures in
    let q = mapped c.try_from.result c.in_err-count.field-0.0 (λ e r. r ≡ c.at-refused.result) (search (rules, c.in_err-count.ensures.cases)) in
    let n = no_count c.try_from.result (c.in_ok-word.word < 2 ^ 32) c.in_ok-word.word q.0 c.try_from.ensures q.1 in
    let r = err_from_is_err_and c.from_residual-in_err-count.result c.from_residual-in_err-count.ensures.1 in
    rw (r.1 ∙ ap Err r.2)
    (bounds_err (λ u vs. slice_in vs u.place ∷ []) EmptiesKept (f d.store) (slices_within (f d.store) c.args.at 1) c.args.at _ _ _ (lt-leb _ _ (omega (arith, w, n))) (q.2 ∙ c.at-refused.ensures))

pub returns : goal.returns
returns g c t z =
    let d = c.args.image.now in
    let f = g.S.Store.words in
    let p = place (f d.store) d.asked c.args.at 1 t 0 c.args.at (omega arith) (omega arith) c.in_ok-place.place c.in_ok-place.ensures.answer in
    let w = word_there (f d.store) d.asked c.args.at 1 t 0 c.in_ok-place.place p _ (ap f c.store.ensures) 0 c.in_ok-word.word c.in_ok-word.ensures in
    let n = count_is c.try_from.result (c.in_ok-word.word < 2 ^ 32) _ c.in_ok-word.word c.in_ok-count.count c.try_from.ensures c.in_ok-count.ensures.cases c.in_ok-count.ensures.variant in
    bounds_ok (λ u vs. slice_in vs u.place ∷ []) EmptiesKept (f d.store) (slices_within (f d.store) c.args.at 1) c.args.at _ _ _ (le-leb _ _ (omega (arith, w, n.0)))
    (record { inside = p.inside; count = omega (arith, w, n.1) ∙ ap (λ s. word_of s 0) (sym p.slice) })
    (ap (λ s. s ∷ []) p.slice ∙ slices_last (f d.store) c.args.at 0 t)
