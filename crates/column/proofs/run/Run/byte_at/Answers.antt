use Rattle.std.proofs.Common.{◌∙◌}
use Rattle.column.proofs.RunLemmas.{byte_in, byte_past}
use Rattle.column.proofs.run.Run.byte_at.Goals as goal

pub returns-in-Ok : goal.returns-in-Ok
returns-in-Ok g c =
    c.byte.ensures
    ∙ byte_in g.T.Value.fits g.T.Element.codec g.met.T.Element.one_to_one _ c.args.self.now.fitting
    c.args.p c.size-size.result c.size-size.ensures c.in-Ok.x c.in-Ok.ensures

pub returns-in-Err : goal.returns-in-Err
returns-in-Err g c =
    byte_past g.T.Value.fits g.T.Element.codec g.met.T.Element.one_to_one _ c.args.self.now.fitting
    c.args.p c.size-size.result c.size-size.ensures c.in-Err.field-0 c.in-Err.ensures
