-- The first side's slices, then the second's.
use Rattle.std.proofs.Common.{ap, ◌∙◌}
use Rattle.column.specs.Column.{slice_length}
use Rattle.column.proofs.SliceAt.{length_first, length_second}
use Rattle.read.proofs.FormLemmas.{counted_given}
use Rattle.tuple.proofs.FormLemmas.{apart, giving_sides}
use Rattle.tuple.proofs.form.PairFromBytes.form_slice_len.Goals as goal

pub returns-in-First : goal.returns-in-First
returns-in-First g c ws s =
    let F = g.A.Kind.format in
    let G = g.B.Kind.format in
    let b = apart g.A.ReadForm g.B.ReadForm F G c.args.form.now _ s in
    let n = counted_given g.met.A.Kind.laws b.left c.slice_count.result c.slice_count.ensures in
    c.form_slice_len.ensures ws b.left
    ∙ length_first _ _ c.slice_count.result _ c.args.k n c.in_ok-j.field-0 c.in_ok-j.ensures c.in-First.j c.in-First.is
    ∙ ap (λ ss. slice_length ss c.args.k) (giving_sides F G _ _ s.keeps.count)

pub returns-in-Second : goal.returns-in-Second
returns-in-Second g c ws s =
    let F = g.A.Kind.format in
    let G = g.B.Kind.format in
    let b = apart g.A.ReadForm g.B.ReadForm F G c.args.form.now _ s in
    let n = counted_given g.met.A.Kind.laws b.left c.slice_count.result c.slice_count.ensures in
    c.form_slice_len-in-Second.ensures ws b.right
    ∙ length_second _ _ c.slice_count.result _ c.args.k n c.in_ok-j.field-0 c.in_ok-j.ensures c.in-Second.j c.in-Second.is
    ∙ ap (λ ss. slice_length ss c.args.k) (giving_sides F G _ _ s.keeps.count)
