-- The first side's slices, then the second's.
use Rattle.std.proofs.Common.{◌∙◌}
use Rattle.column.proofs.SliceAt.{word_first, word_second}
use Rattle.tuple.proofs.pair.joint_word.Goals as goal

pub returns-in-First : goal.returns-in-First
returns-in-First g c =
    c.slice_word.ensures ∙ word_first _ _ c.slices.result _ c.args.k c.slices.ensures c.in_ok-j.field-0 c.in_ok-j.ensures c.in-First.j c.args.i c.in-First.is

pub returns-in-Second : goal.returns-in-Second
returns-in-Second g c =
    c.slice_word-in-Second.ensures ∙ word_second _ _ c.slices.result _ c.args.k c.slices.ensures c.in_ok-j.field-0 c.in_ok-j.ensures c.in-Second.j c.args.i c.in-Second.is
