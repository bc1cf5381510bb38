-- The slices of the words below, and then the tail's.
use Rattle.std.proofs.Common.{◌∙◌}
use Rattle.boolean.proofs.FormLemmas.{tail_asked}
use Rattle.boolean.proofs.form.BoolsFromBytes.sized.Goals as goal

pub returns : goal.returns
returns g c t =
    let d = c.args.image.now in
    c.has_words.ensures ∙ tail_asked (g.S.Store.words d.store) d.asked g.C.Kind.format c.args.at t c.slice_count.result c.saturating_add.result c.slice_count.ensures c.saturating_add.ensures c.in_ok-sized.ensures
