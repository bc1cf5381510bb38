use Rattle.offsets.proofs.StridesLemmas.{bounds_at_lem, never_refused}
use Rattle.offsets.proofs.bounds.bounds.Goals as goal

pub returns-in_err-lower : goal.returns-in_err-lower
returns-in_err-lower g c =
    never_refused (g.R.Index.list c.args.ends.now) c.args.i c.in_ok-upper.upper c.in_ok-upper.ensures c.if-i-eq0.false c.in_err-lower.field-0.0 c.in_err-lower.ensures

pub returns : goal.returns
returns g c =
    bounds_at_lem (g.R.Index.list c.args.ends.now) c.args.i c.in_ok-upper.upper c.in_ok-upper.ensures c.if-i-eq0.false c.in_ok-lower.lower c.in_ok-lower.ensures
