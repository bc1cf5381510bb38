use Rattle.std.proofs.Common.{◌∙◌, arith}
use Rattle.boolean.proofs.BitsLemmas.{kept, takes_few, takes_full}
use Rattle.boolean.proofs.bools.BoolsColumn.takes.Goals as goal

pub returns-then-self-lt63 : goal.returns-then-self-lt63
returns-then-self-lt63 g c =
    let bools = c.args.self.now in
    takes_few (kept _ _ _ (g.met.C.Listed.counted bools.values) (g.met.C.Column.held bools.values) bools.few bools.clean bools.short) g.C.Column.takes (g.C.Column.areas bools.values) c.args.x (omega (arith, c.len.ensures)) c.if-self-lt63.true

pub returns : goal.returns
returns g c =
    let bools = c.args.self.now in
    c.takes.ensures
    ∙ takes_full (kept _ _ _ (g.met.C.Listed.counted bools.values) (g.met.C.Column.held bools.values) bools.few bools.clean bools.short) g.C.Column.takes (g.C.Column.areas bools.values) c.args.x (omega (arith, c.len.ensures)) c.from.result c.if-self-lt63.false c.from.ensures
