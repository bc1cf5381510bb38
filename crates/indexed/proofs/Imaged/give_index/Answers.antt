use Rattle.std.proofs.Common.{◌≡◌, ◌+◌, map, slice_index, arith}
use lib.ListN.{length-map}
use Rattle.area.specs.Digits.{digits}
use Rattle.indexed.specs.Image.{index}
use Rattle.indexed.proofs.ImageLemmas.{length-image, length-index}
use Rattle.indexed.proofs.PieceLemmas.{piece_of, took_none, took_more, took_all, stop_at, stops}
use Rattle.indexed.proofs.Imaged.give_index.Goals as goal

pub returns-in_err-give : goal.returns-in_err-give
returns-in_err-give g c =
    let ss = g.A.AsBytes.slices c.args.self.now.item.now in
    let q = piece_of (index ss) 0 _ _ (omega (arith, length-index ss)) (omega (arith, c.args.self.now.short, length-image ss, c.slices-count.ensures)) c.to_le_bytes.ensures in
    stops c.from_residual.result c.from_residual.ensures.1 (stop_at (map (digits 256 8) (index ss)) 0 _ q.0 q.1 (took_none c.args.out.now) c.in_err-give.ensures)

pub loop-k-init : goal.loop-k-init
loop-k-init g c =
    let ss = g.A.AsBytes.slices c.args.self.now.item.now in
    let n = length-image ss in
    let q = piece_of (index ss) 0 _ _ (omega (arith, length-index ss)) (omega (arith, c.args.self.now.short, c.slices-count.ensures)) c.to_le_bytes.ensures in
    record {
      this = omega (arith, c.args.self.now.short, c.slices-count.ensures);
      took = took_more (map (digits 256 8) (index ss)) 0 _ q.0 q.1 (took_none c.args.out.now) c.in_ok-give.ensures;
    }

pub returns-in_err-give-2 : goal.returns-in_err-give-2
returns-in_err-give-2 g c =
    let ss = g.A.AsBytes.slices c.args.self.now.item.now in
    let e : c.in_ok-end.end ≡ slice_index (index ss) (c.loop-k.k + 1) = cc c.in_ok-end.ensures in
    let q = piece_of (index ss) (c.loop-k.k + 1) _ _ (omega (arith, length-index ss, c.slices-count.ensures)) e c.to_le_bytes-in-loop-k.ensures in
    stops c.from_residual-in_err-give-2.result c.from_residual-in_err-give-2.ensures.1 (stop_at (map (digits 256 8) (index ss)) (c.loop-k.k + 1) _ q.0 q.1 c.loop-k.invariant.took c.in_err-give-2.ensures)

pub loop-k-preserved : goal.loop-k-preserved
loop-k-preserved g c =
    let ss = g.A.AsBytes.slices c.args.self.now.item.now in
    let e : c.in_ok-end.end ≡ slice_index (index ss) (c.loop-k.k + 1) = cc c.in_ok-end.ensures in
    let q = piece_of (index ss) (c.loop-k.k + 1) _ _ (omega (arith, length-index ss, c.slices-count.ensures)) e c.to_le_bytes-in-loop-k.ensures in
    record {
      this = e;
      took = took_more (map (digits 256 8) (index ss)) (c.loop-k.k + 1) _ q.0 q.1 c.loop-k.invariant.took c.in_ok-give-2.ensures;
    }

pub returns : goal.returns
returns g c =
    let ss = g.A.AsBytes.slices c.args.self.now.item.now in
    took_all (map (digits 256 8) (index ss)) (c.loop-k.k + 1) (omega (arith, length-map (index ss) (digits 256 8), length-index ss, length-image ss, c.args.self.now.short, c.slices-count.ensures)) c.loop-k.invariant.took
