use Rattle.std.proofs.Common.{◌+◌, drop, arith}
use Rattle.std.specs.List.{flat_map}
use Rattle.std.proofs.lemmas.List.{take_all}
use Rattle.std.proofs.lemmas.Result.{err_from_is_err_and}
use Rattle.indexed.specs.Pieces.{slice_pieces}
use Rattle.indexed.proofs.ImageLemmas.{length-image}
use Rattle.indexed.proofs.PieceLemmas.{pieces-split, stop_before, stop_after}
use Rattle.indexed.proofs.Imaged.give_slices.Goals as goal

pub returns-in_err-give_slice : goal.returns-in_err-give_slice
returns-in_err-give_slice g c =
    let p = err_from_is_err_and c.from_residual.result c.from_residual.ensures.1 in
    let ss = g.A.AsBytes.slices c.args.self.now.item.now in
    rw (p.1, p.2, pieces-split ss c.loop-k.k (omega (arith, c.slices-k-end.ensures)))
    (stop_before (flat_map slice_pieces (drop (c.loop-k.k + 1) ss)) (stop_after c.loop-k.invariant c.in_err-give_slice.ensures))

pub returns : goal.returns
returns g c =
    let ss = g.A.AsBytes.slices c.args.self.now.item.now in
    let e = take_all c.loop-k.k ss (omega (arith, length-image ss, c.args.self.now.short, c.slices-k-end.ensures)) in
    rw e at c.loop-k.invariant
