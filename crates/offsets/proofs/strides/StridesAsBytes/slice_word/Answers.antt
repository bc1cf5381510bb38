use Rattle.std.proofs.Common.{◌∙◌}
use Rattle.offsets.proofs.StridesLemmas.{bounds-word}
use Rattle.offsets.proofs.strides.StridesAsBytes.slice_word.Goals as goal

pub returns-then-k-gt0 : goal.returns-then-k-gt0
returns-then-k-gt0 c = c.slice_word.ensures ∙ bounds-word c.args.self.now c.args.k c.args.i c.if-k-gt0.true
