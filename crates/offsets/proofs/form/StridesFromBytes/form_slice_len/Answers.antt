use Rattle.std.proofs.Common.{◌∙◌}
use Rattle.offsets.proofs.FormLemmas.{bounds_stand, given_length}
use Rattle.offsets.proofs.form.StridesFromBytes.form_slice_len.Goals as goal

pub returns-then-k-gt0 : goal.returns-then-k-gt0
returns-then-k-gt0 c ws h =
    let t = c.args.form.now in
    c.form_slice_len.ensures ws (bounds_stand t ws h) ∙ given_length t ws h c.args.k c.if-k-gt0.true
