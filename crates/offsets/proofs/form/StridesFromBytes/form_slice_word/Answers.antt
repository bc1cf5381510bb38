use Rattle.std.proofs.Common.{◌∙◌}
use Rattle.offsets.proofs.FormLemmas.{bounds_stand, given_word}
use Rattle.offsets.proofs.form.StridesFromBytes.form_slice_word.Goals as goal

pub returns-then-k-gt0 : goal.returns-then-k-gt0
returns-then-k-gt0 g c h =
    let t = c.args.form.now in
    let ws = g.S.Store.words c.args.store.now in
    c.form_slice_word.ensures (bounds_stand t ws h) ∙ given_word t ws h c.args.k c.if-k-gt0.true c.args.i
