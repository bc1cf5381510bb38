use Rattle.std.proofs.Common.{◌+◌, ◌-◌, ◌*◌, length, ap, arith}
use Rattle.storage.specs.StoreLaws.{all_fit}
use Rattle.decode.proofs.PartLemmas.{part_found, part_within}
use Rattle.decode.proofs.decode.Decoded.get.Goals as goal

pub slice_bounds-result-end : goal.slice_bounds-result-end
slice_bounds-result-end c =
    let d = c.args.self.now.slices in
    let w = part_within d.store.bytes.now d.store.stands d.asked c.args.k c.in_ok-span.span c.in_ok-span.ensures.answer in
    let n = ap (λ s. length s.bytes.now) c.store.ensures in
    omega arith

pub returns : goal.returns
returns c =
    let d = c.args.self.now.slices in
    let p = 8 * c.in_ok-span.span.from in
    rw (ap (λ s. s.bytes.now) c.store.ensures)
    (part_found d.store.bytes.now d.store.stands d.asked c.args.k c.in_ok-span.span c.in_ok-span.ensures.answer p (p + c.in_ok-span.span.bytes - p) (all_fit d.store.bytes.now 256 d.store.fitting) (omega arith) (omega arith))
