use Rattle.std.proofs.Common.{◌+◌, ap, arith, take_all}
use Rattle.area.specs.Slice.{weight}
use Rattle.indexed.proofs.ImageLemmas.{length-image, weight-take, weight_turn, exit_long, too_long, short}
use Rattle.indexed.proofs.length_in_words.Goals as goal

pub returns-then-count-ge-MAX_WORDS : goal.returns-then-count-ge-MAX_WORDS
returns-then-count-ge-MAX_WORDS g c =
    let ss = g.A.AsBytes.slices c.args.item.now in
    too_long ss _ c.at_start.ensures (omega (arith, length-image ss, c.slices-count.ensures))

pub returns-in_err-slice_len : goal.returns-in_err-slice_len
returns-in_err-slice_len g c =
    exit_long (g.A.AsBytes.slices c.args.item.now) c.loop-k.k c.in_err-slice_len.field-0.0 c.from_residual.ensures.1 (g.met.A.AsBytes.formed c.args.item.now) (omega (arith, c.slices-count.ensures)) c.in_err-slice_len.ensures

pub returns-then-words-total : goal.returns-then-words-total
returns-then-words-total g c =
    let ss = g.A.AsBytes.slices c.args.item.now in
    let t = weight_turn ss c.loop-k.k _ _ (g.met.A.AsBytes.formed c.args.item.now) c.in_ok-slice_len.ensures c.div_ceil-words.ensures in
    too_long ss _ c.at_start-then-words-total.ensures
    (omega (arith, t, c.loop-k.invariant.counted, length-image ss, weight-take ss (c.loop-k.k + 1)))

pub loop-k-preserved : goal.loop-k-preserved
loop-k-preserved g c =
    record {
      short = omega arith;
      counted = omega (arith, c.loop-k.invariant.counted, weight_turn (g.A.AsBytes.slices c.args.item.now) c.loop-k.k _ _ (g.met.A.AsBytes.formed c.args.item.now) c.in_ok-slice_len.ensures c.div_ceil-words.ensures);
    }

pub returns : goal.returns
returns g c =
    let ss = g.A.AsBytes.slices c.args.item.now in
    let e = take_all c.loop-k.k ss (omega (arith, c.slices-count.ensures)) in
    short ss _ (omega (arith, c.loop-k.invariant.counted, ap weight e, length-image ss)) c.loop-k.invariant.short
