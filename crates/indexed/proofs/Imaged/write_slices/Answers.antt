use Rattle.std.proofs.Common.{length, ◌∙◌, rules, arith}
use Rattle.indexed.proofs.ImageLemmas.{length-image, slices_written, length_ok, long_err, slice_room, words_turn, weight_turn, slices_turn}
use Rattle.indexed.proofs.Imaged.write_slices.Goals as goal

pub returns-in_err-slice_len : goal.returns-in_err-slice_len
returns-in_err-slice_len g c =
    let ss = g.A.AsBytes.slices c.args.self.now.item.now in
    absurd (omega (arith, c.args.self.now.short, (long_err ss c.loop-k.k _ (g.met.A.AsBytes.formed c.args.self.now.item.now) (omega (arith, c.slices-k-end.ensures)) c.in_err-slice_len.ensures).1))

pub overflow_add-place : goal.overflow_add-place
overflow_add-place g c =
    let h = slice_room (g.A.AsBytes.slices c.args.self.now.item.now) c.loop-k.k _ _ c.args.at c.loop-k.place (length c.args.part.now) (g.met.A.AsBytes.formed c.args.self.now.item.now) c.in_ok-slice_len.ensures c.div_ceil-words.ensures c.loop-k.invariant.this c.requires.room in
    search rules

pub offset_bounds-part-place : goal.offset_bounds-part-place
offset_bounds-part-place g c =
    let h = slice_room (g.A.AsBytes.slices c.args.self.now.item.now) c.loop-k.k _ _ c.args.at c.loop-k.place (length c.args.part.now) (g.met.A.AsBytes.formed c.args.self.now.item.now) c.in_ok-slice_len.ensures c.div_ceil-words.ensures c.loop-k.invariant.this c.requires.room in
    search rules

pub slice_bounds-write_slice-end : goal.slice_bounds-write_slice-end
slice_bounds-write_slice-end g c =
    let h = slice_room (g.A.AsBytes.slices c.args.self.now.item.now) c.loop-k.k _ _ c.args.at c.loop-k.place (length c.args.part.now) (g.met.A.AsBytes.formed c.args.self.now.item.now) c.in_ok-slice_len.ensures c.div_ceil-words.ensures c.loop-k.invariant.this c.requires.room in
    search rules

pub loop-k-preserved : goal.loop-k-preserved
loop-k-preserved g c =
    let ss = g.A.AsBytes.slices c.args.self.now.item.now in
    let n = c.in_ok-slice_len.ensures in
    let i = c.loop-k.invariant in
    let w = words_turn ss c.loop-k.k _ _ (g.met.A.AsBytes.formed c.args.self.now.item.now) n c.div_ceil-words.ensures in
    record {
      this = omega (arith, i.this, weight_turn ss c.loop-k.k _ _ (g.met.A.AsBytes.formed c.args.self.now.item.now) n c.div_ceil-words.ensures);
      written = slices_turn ss c.args.part.now c.args.at c.loop-k.k c.loop-k.place c.div_ceil-words.result _ _ _ (length_ok ss c.loop-k.k _ n).1 (omega (arith, c.requires.room)) w (omega arith) i.this i.written c.write_slice.ensures.after;
    }

pub returns-clause-after : goal.returns-clause-after
returns-clause-after g c =
    c.loop-k.invariant.written ∙ slices_written (g.A.AsBytes.slices c.args.self.now.item.now) c.args.part.now c.args.at c.loop-k.k
    (omega (arith, c.args.self.now.short, c.slices-k-end.ensures, length-image (g.A.AsBytes.slices c.args.self.now.item.now)))
