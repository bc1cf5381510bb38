use Rattle.std.proofs.Common.{refl, arith}
use Rattle.decode.proofs.DecodeLemmas.{ends_before, ends_outside, ends_turn}
use Rattle.decode.proofs.decoded.ends_stand.Goals as goal

pub returns-then-end-total : goal.returns-then-end-total
returns-then-end-total g c =
    let ws = g.S.Store.words c.args.store.now in
    let e = ends_outside ws c.args.count c.requires.under c.loop-k.k c.in_ok-end.end c.loop-k.start (omega arith) c.word.result c.word.ensures c.in_ok-end.ensures.ok_part c.loop-k.invariant (omega arith) in
    rw (c.at.ensures, e) refl

pub returns-then-end-start : goal.returns-then-end-start
returns-then-end-start g c =
    let ws = g.S.Store.words c.args.store.now in
    let e = ends_before ws c.args.count c.requires.under c.loop-k.k c.in_ok-end.end c.loop-k.start (omega arith) c.word.result c.word.ensures c.in_ok-end.ensures.ok_part c.loop-k.invariant (omega arith) (omega arith) in
    rw (c.at-then-end-start.ensures, e) refl

pub loop-k-preserved : goal.loop-k-preserved
loop-k-preserved g c =
    let ws = g.S.Store.words c.args.store.now in
    ends_turn ws c.args.count c.requires.under c.loop-k.k c.in_ok-end.end c.loop-k.start (omega arith) c.word.result c.word.ensures c.in_ok-end.ensures.ok_part c.loop-k.invariant c.next_multiple_of-start.result (omega arith) (omega arith) (omega arith)
