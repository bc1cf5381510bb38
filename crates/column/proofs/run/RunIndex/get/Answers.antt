use Rattle.std.proofs.Common.{Ok, Err, sym, ap, ◌∙◌}
use Rattle.column.proofs.RunLemmas.{read_at, read_past}
use Rattle.column.proofs.run.RunIndex.get.Goals as goal

pub returns-then-i-self : goal.returns-then-i-self
returns-then-i-self g c =
    let run = c.args.self.now in
    ap Err c.at_start.ensures ∙ sym (read_past run.cells.now run.len run.within c.args.i c.if-i-self.true)

pub returns : goal.returns
returns g c =
    let run = c.args.self.now in
    ap Ok (sym c.index-self-i.is) ∙ read_at run.cells.now run.len run.within c.args.i c.index-self-i.result c.if-i-self.false c.index-self-i.is
