use Rattle.std.proofs.Common.{map, refl, arith, rules}
use lib.ListN.{length-map}
use Rattle.area.specs.Digits.{digits}
use Rattle.storage.proofs.StoreLemmas.{slice_get_missing}
use Rattle.indexed.proofs.PieceLemmas.{answered, stop_at, stops, store_turn, took_all, took_more}
use Rattle.indexed.proofs.write.write_store.Goals as goal

pub returns-in_default : goal.returns-in_default
returns-in_default g c = absurd (omega (arith, slice_get_missing (g.S.Store.words c.args.store.now) c.loop-i.i c.in_default.ensures, c.count-i-end.ensures))

pub returns-in_err-give : goal.returns-in_err-give
returns-in_err-give g c =
    let ws = g.S.Store.words c.args.store.now in
    let ps = map (digits 256 8) ws in
    let n = length-map ws (digits 256 8) in
    let k = c.count-i-end.ensures in
    let q = store_turn ws c.loop-i.i c.in-Some.word _ c.in-Some.ensures (c.to_le_bytes.ensures) in
    answered ps _ c.give.new.self _ refl (omega arith) (stops c.from_residual.result c.from_residual.ensures.1 (stop_at ps c.loop-i.i _ q.0 q.1 c.loop-i.invariant c.in_err-give.ensures)) (search rules)

pub loop-i-preserved : goal.loop-i-preserved
loop-i-preserved g c =
    let ws = g.S.Store.words c.args.store.now in
    let q = store_turn ws c.loop-i.i c.in-Some.word _ c.in-Some.ensures (c.to_le_bytes.ensures) in
    took_more (map (digits 256 8) ws) c.loop-i.i _ q.0 q.1 c.loop-i.invariant c.in_ok-give.ensures

pub returns : goal.returns
returns g c =
    let ws = g.S.Store.words c.args.store.now in
    let ps = map (digits 256 8) ws in
    let n = length-map ws (digits 256 8) in
    let k = c.count-i-end.ensures in
    answered ps _ c.loop-i.out _ refl (omega arith) (took_all ps c.loop-i.i (omega arith) c.loop-i.invariant) (search rules)
