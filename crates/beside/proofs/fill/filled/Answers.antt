use Rattle.std.proofs.Common.{◌≡◌, true, sym, ◌∙◌, subst}
use Rattle.std.specs.Prelude.{nat_le}
use Rattle.std.specs.List.{list_all}
use Rattle.beside.proofs.FillLemmas.{pushed_by}
use Rattle.beside.proofs.fill.filled.Goals as goal

pub returns : goal.returns
returns g c =
    let h : list_all (λ n. nat_le n g.E.Numbered.most) c.args.numbers.now ≡ true = subst (λ m. list_all (λ n. nat_le n m) c.args.numbers.now ≡ true) c.most.ensures (sym c.all_within.ensures ∙ c.if-not-all_within.false) in
    pushed_by (record { slices = g.C.AsBytes.slices; list = g.C.Index.list; format = g.C.Kind.format; elements = g.C.Kind.elements; areas = g.C.Column.areas; takes = g.C.Column.takes })
    g.E.Numbered.most g.E.Numbered.element c.args.column c.args.numbers.now h c.fill.result c.fill.ensures
