use Rattle.std.proofs.Common.{◌∙◌}
use Rattle.offsets.proofs.StridesLemmas.{bounds-length}
use Rattle.offsets.proofs.strides.StridesAsBytes.slice_len.Goals as goal

pub returns : goal.returns
returns c = c.slice_len.ensures ∙ bounds-length c.args.self.now c.args.k c.if-k-eq0.false
