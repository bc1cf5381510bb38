-- The first side's slices, then the second's.
use Rattle.std.proofs.Common.{◌∙◌}
use Rattle.column.proofs.SliceAt.{length_first, length_second}
use Rattle.tuple.proofs.pair.joint_len.Goals as goal

pub returns-in-First : goal.returns-in-First
returns-in-First g c =
    c.slice_len.ensures ∙ length_first _ _ c.slices.result _ c.args.k c.slices.ensures c.in_ok-j.field-0 c.in_ok-j.ensures c.in-First.j c.in-First.is

pub returns-in-Second : goal.returns-in-Second
returns-in-Second g c =
    c.slice_len-in-Second.ensures ∙ length_second _ _ c.slices.result _ c.args.k c.slices.ensures c.in_ok-j.field-0 c.in_ok-j.ensures c.in-Second.j c.in-Second.is
