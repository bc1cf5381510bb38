use Rattle.std.proofs.Common.{◌+◌, arith}
use Rattle.decode.proofs.DecodeLemmas.{never_none, span_answer_lem, span_read}
use Rattle.decode.proofs.decoded.DecodedStore.get.Goals as goal

pub returns-in_err-lower-clause-answer : goal.returns-in_err-lower-clause-answer
returns-in_err-lower-clause-answer g c =
    let d = c.args.self.now in
    absurd (never_none (g.S.Store.words d.store) d.asked c.args.k (omega arith) c.args.k (omega arith) c.word.result c.word.ensures c.in_err-lower.ensures.ok_part)

pub returns-in_err-upper-clause-answer : goal.returns-in_err-upper-clause-answer
returns-in_err-upper-clause-answer g c =
    let d = c.args.self.now in
    absurd (never_none (g.S.Store.words d.store) d.asked c.args.k (omega arith) (c.args.k + 1) (omega arith) c.word-2.result c.word-2.ensures c.in_err-upper.ensures.ok_part)

pub overflow_mul-result : goal.overflow_mul-result
overflow_mul-result g c =
    let d = c.args.self.now in
    let r = span_read (g.S.Store.words d.store) d.asked c.args.k (omega arith) c.in_ok-lower.lower c.in_ok-upper.upper c.word.result c.word-2.result c.word.ensures c.word-2.ensures c.in_ok-lower.ensures.ok_part c.in_ok-upper.ensures.ok_part in
    omega arith

pub overflow_sub-result : goal.overflow_sub-result
overflow_sub-result g c =
    let d = c.args.self.now in
    let r = span_read (g.S.Store.words d.store) d.asked c.args.k (omega arith) c.in_ok-lower.lower c.in_ok-upper.upper c.word.result c.word-2.result c.word.ensures c.word-2.ensures c.in_ok-lower.ensures.ok_part c.in_ok-upper.ensures.ok_part in
    omega arith

pub returns-clause-answer : goal.returns-clause-answer
returns-clause-answer g c =
    let d = c.args.self.now in
    span_answer_lem (g.S.Store.words d.store) d.asked c.args.k (omega arith) c.in_ok-lower.lower c.in_ok-upper.upper c.word.result c.word-2.result c.word.ensures c.word-2.ensures c.in_ok-lower.ensures.ok_part c.in_ok-upper.ensures.ok_part _ _ (omega arith) (omega arith)
