use Rattle.std.proofs.Common.{◌≡◌, ◌≤◌, Err, is_err, rules, sym, refl, ap, ◌∙◌, subst, arith}
use Rattle.std.proofs.lemmas.Result.{err_from_is_err_and}
use Rattle.column.proofs.AppendLemmas.{added_none, added_more, added_stopped, added_all, not_refused}
use Rattle.column.proofs.ColumnLemmas.{mapped}
use Rattle.column.proofs.RunLemmas.{past_from_err}
use Rattle.column.proofs.append.append.Goals as goal

pub loop-i-init : goal.loop-i-init
loop-i-init g c = (refl, added_none g.C.Column.takes (g.C.Column.areas c.args.dst.now) _ _ _ _)

-- every place of the range is there
pub returns-in_err-get : goal.returns-in_err-get
returns-in_err-get g c = absurd (omega (arith, c.len.ensures, past_from_err (g.R.Index.list c.args.src.now) c.loop-i.i _ c.in_err-get.ensures))

pub returns-in_err-map_err : goal.returns-in_err-map_err
returns-in_err-map_err g c =
    let p = err_from_is_err_and c.from_residual-in_err-map_err.result c.from_residual-in_err-map_err.ensures.1 in
    let q = mapped c.push.result c.in_err-map_err.field-0.0 (λ e f. f ≡ c.at-refused.result) (search (rules, c.in_err-map_err.ensures.cases)) in
    let stopped =
    added_stopped g.C.Column.takes (g.C.Column.areas c.args.dst.now) (g.C.Index.list c.args.dst.now) (g.R.Index.list c.args.src.now) c.args.a c.args.b
    (subst (λ n. c.args.b ≤ n) c.len.ensures c.if-b-len.false) c.loop-i.i (g.C.Index.list c.loop-i.dst) c.loop-i.auto.i c.loop-i.invariant.1
    c.loop-i-test.true c.in_ok-get.field-0 (sym c.in_ok-get.ensures) (g.C.Column.areas c.loop-i.dst) c.loop-i.invariant.0
    c.push.result (g.C.Index.list c.push.new.self) c.push.ensures.answer c.push.ensures.after (ap is_err (sym q.1)) in
    record {
      answer = p.1 ∙ ap Err (p.2 ∙ q.2 ∙ c.at-refused.ensures) ∙ stopped.0;
      after = stopped.1;
      same = c.push.ensures.same ∙ c.loop-i.invariant.0;
    }

pub loop-i-preserved : goal.loop-i-preserved
loop-i-preserved g c = (
  c.push.ensures.same ∙ c.loop-i.invariant.0,
  added_more g.C.Column.takes (g.C.Column.areas c.args.dst.now) (g.C.Index.list c.args.dst.now) (g.R.Index.list c.args.src.now) c.args.a c.args.b
      (subst (λ n. c.args.b ≤ n) c.len.ensures c.if-b-len.false) c.loop-i.i (g.C.Index.list c.loop-i.dst) c.loop-i.auto.i c.loop-i.invariant.1
      c.loop-i-test.true c.in_ok-get.field-0 (sym c.in_ok-get.ensures) (g.C.Column.areas c.loop-i.dst) c.loop-i.invariant.0
      c.push.result (g.C.Index.list c.push.new.self) c.push.ensures.answer c.push.ensures.after (not_refused c.push.result (sym c.in_ok-map_err.ensures.variant)),
)

pub returns : goal.returns
returns g c =
    let all =
    added_all g.C.Column.takes (g.C.Column.areas c.args.dst.now) (g.C.Index.list c.args.dst.now) (g.R.Index.list c.args.src.now) c.args.a c.args.b
    (subst (λ n. c.args.b ≤ n) c.len.ensures c.if-b-len.false) c.loop-i.i (g.C.Index.list c.loop-i.dst) c.loop-i.auto.i c.loop-i.invariant.1 c.loop-i-test.false in
    record {
      answer = all.0;
      after = all.1;
      same = c.loop-i.invariant.0;
    }
