use Rattle.std.proofs.Common.{rules}
use Rattle.offsets.proofs.FormLemmas.{strides_stood}
use Rattle.offsets.proofs.form.StridesFromBytes.view_get.Goals as goal

pub returns : goal.returns
returns g c = search (rules, strides_stood c.args.view.now.stands)
