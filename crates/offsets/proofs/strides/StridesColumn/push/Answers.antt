use Rattle.std.proofs.Common.{rules, length, sym, ap, ◌∙◌, arith}
use Rattle.column.specs.Column.{cells, push_answer, pushed}
use Rattle.offsets.proofs.StridesLemmas.{list, grown_list, grown_cleared, grown_length, grown_longest, grown_product, grown_taken}
use Rattle.offsets.proofs.strides.StridesColumn.push.Goals as goal

pub invariant_of-self-2 : goal.invariant_of-self-2
invariant_of-self-2 c =
    let column = c.args.self.now in
    record {
      product = grown_product column c.args.x c.in-Some.head c.in-Some.ensures (search rules);
      cleared = grown_cleared column c.args.x c.in-Some.head c.in-Some.ensures;
      longest = grown_longest column c.args.x c.in-Some.head c.in-Some.ensures;
      short = omega (arith, c.len.ensures, grown_length column c.args.x c.in-Some.head c.in-Some.ensures);
    }

pub returns-clause-answer : goal.returns-clause-answer
returns-clause-answer c =
    let column = c.args.self.now in
    let a = cells (length column.bounds.cells.now) in
    ap push_answer (sym (grown_taken column c.args.x c.in-Some.head c.in-Some.ensures a (omega (arith, c.len.ensures))))

pub returns-clause-after : goal.returns-clause-after
returns-clause-after c =
    let column = c.args.self.now in
    let a = cells (length column.bounds.cells.now) in
    grown_list column c.args.x c.in-Some.head c.in-Some.ensures
    ∙ ap (λ b. pushed b (list column) c.args.x) (sym (grown_taken column c.args.x c.in-Some.head c.in-Some.ensures a (omega (arith, c.len.ensures))))
