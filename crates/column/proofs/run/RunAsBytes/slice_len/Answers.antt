use Rattle.column.proofs.RunLemmas.{run_slice, run_too_long}
use Rattle.column.proofs.run.RunAsBytes.slice_len.Goals as goal

pub returns-then-bytes : goal.returns-then-bytes
returns-then-bytes g c =
    run_too_long g.T.Value.fits g.T.Element.codec g.met.T.Element.one_to_one c.args.self.now.cells.now c.args.self.now.len c.args.self.now.within c.args.self.now.fitting
    c.args.k c.size.result c.saturating_mul-bytes.result c.if-k-gt0.false c.size.ensures c.saturating_mul-bytes.ensures
    c.at_start-then-bytes.result c.if-bytes.true c.at_start-then-bytes.ensures

pub returns : goal.returns
returns g c =
    run_slice g.T.Value.fits g.T.Element.codec g.met.T.Element.one_to_one c.args.self.now.cells.now c.args.self.now.len c.args.self.now.within c.args.self.now.fitting
    c.args.k c.size.result c.saturating_mul-bytes.result c.if-k-gt0.false c.size.ensures c.saturating_mul-bytes.ensures
    c.if-bytes.false
