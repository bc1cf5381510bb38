use Rattle.std.proofs.Common.{◌≡◌, refl, ap, ◌∙◌, rules}
use Rattle.indexed.specs.declared.write.WriteFault.TheVariants.{Full}
use Rattle.column.proofs.ColumnLemmas.{mapped}
use Rattle.indexed.proofs.PieceLemmas.{stopped_one, stops}
use Rattle.indexed.proofs.write.Counted.give.Goals as goal

pub returns-in_err-map_err : goal.returns-in_err-map_err
returns-in_err-map_err g c =
    let q = mapped c.write_all.result c.in_err-map_err.field-0.0 (λ e f. f ≡ Full c.at-refused.result e) (search (rules, c.in_err-map_err.ensures.cases)) in
    stops c.from_residual.result c.from_residual.ensures.1
    (stopped_one c.args.bytes.now q.0 refl refl (q.1 ∙ c.write_all.ensures.answer) c.write_all.ensures.taken c.write_all.ensures.room c.write_all.ensures.beyond (q.2 ∙ ap (λ f. Full f q.0) c.at-refused.ensures))
