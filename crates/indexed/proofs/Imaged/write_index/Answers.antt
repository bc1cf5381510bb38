use Rattle.std.proofs.Common.{◌≡◌, ◌+◌, ◌<◌, length, slice_index, sym, ap, refl, ◌∙◌, zero-add, rules, arith}
use lib.Seq.{paste}
use Rattle.std.proofs.lemmas.List.Edits.{paste_none}
use Rattle.indexed.specs.Image.{index}
use Rattle.indexed.proofs.ImageLemmas.{length-image, length-index, paste_turn}
use Rattle.indexed.proofs.Imaged.write_index.Goals as goal

pub loop-k-init : goal.loop-k-init
loop-k-init g c =
    let ss = g.A.AsBytes.slices c.args.self.now.item.now in
    let n = length-image ss in
    record {
      this = omega (arith, c.args.self.now.short, c.slices-count.ensures);
      written = paste_turn c.args.part.now 0 (index ss) c.args.part.now 0 0 _ (paste_none c.args.part.now 0 (index ss)) refl (omega (arith, c.args.self.now.short, c.slices-count.ensures)) (omega (arith, c.requires.room)) (omega (arith, length-index ss));
    }

pub bounds-part-k : goal.bounds-part-k
bounds-part-k g c =
    let h : c.loop-k.k + 1 < length c.args.part.now = omega (arith, c.requires.room, length-image (g.A.AsBytes.slices c.args.self.now.item.now), c.slices-count.ensures) in
    search rules

pub loop-k-preserved : goal.loop-k-preserved
loop-k-preserved g c =
    let ss = g.A.AsBytes.slices c.args.self.now.item.now in
    let n = length-image ss in
    let e : c.in_ok-end.end ≡ slice_index (index ss) (c.loop-k.k + 1) = cc c.in_ok-end.ensures in
    record {
      this = e;
      written = paste_turn c.args.part.now 0 (index ss) c.loop-k.part (c.loop-k.k + 1) (c.loop-k.k + 1) _ c.loop-k.invariant.written (sym (zero-add _)) e (omega (arith, c.requires.room, c.slices-count.ensures)) (omega (arith, length-index ss, c.slices-count.ensures));
    }

pub returns-clause-after : goal.returns-clause-after
returns-clause-after g c =
    let ss = g.A.AsBytes.slices c.args.self.now.item.now in
    let k : c.loop-k.k + 1 ≡ length (index ss) = omega (arith, length-index ss, length-image ss, c.args.self.now.short, c.slices-count.ensures) in
    c.loop-k.invariant.written ∙ ap (paste c.args.part.now 0 (index ss)) k
