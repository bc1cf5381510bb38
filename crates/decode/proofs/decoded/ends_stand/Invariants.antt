use Rattle.std.proofs.Common.{◌≡◌, suc, ◌*◌, length, take, drop}
use Rattle.decode.specs.Decode.{ends_fault}
use Rattle.decode.proofs.decoded.ends_stand.Given as goal

abbrev pub invariant-loop-k : goal.invariant-loop-k
invariant-loop-k g l =
    ends_fault (8 * length (g.S.Store.words l.store)) l.k l.start (drop l.k (take l.count (drop 1 (g.S.Store.words l.store))))
    ≡ ends_fault (8 * length (g.S.Store.words l.store)) 0 (8 * suc l.count) (take l.count (drop 1 (g.S.Store.words l.store)))
