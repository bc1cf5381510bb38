use Rattle.std.proofs.Common.{sym, ◌∙◌, arith}
use Rattle.area.specs.Digits.{chunks}
use Rattle.area.specs.Slice.{words_for, contents}
use Rattle.area.proofs.DigitLemmas.{length-chunks}
use Rattle.column.specs.Kind.{slot}
use Rattle.column.specs.KindLemmas.{slot-formed}
use Rattle.indexed.proofs.ImageLemmas.{err_not_ok, length_ok, length_known, word_ok}
use Rattle.indexed.proofs.PieceLemmas.{word_turn, took_more, took_all, stop_at, stops}
use Rattle.indexed.proofs.Imaged.give_words.Goals as goal

pub returns-in_err-slice_word : goal.returns-in_err-slice_word
returns-in_err-slice_word g c =
    let ss = g.A.AsBytes.slices c.args.self.now.item.now in
    let l = sym c.requires in
    absurd (err_not_ok (c.in_err-slice_word.ensures ∙ word_ok ss c.args.k c.loop-i.i (length_known ss c.args.k _ l) (omega (arith, (slot-formed ss c.args.k (length_ok ss c.args.k _ l).1 (g.met.A.AsBytes.formed c.args.self.now.item.now)).1, length_ok ss c.args.k _ l, c.div_ceil-i-end.ensures))))

pub returns-in_err-give : goal.returns-in_err-give
returns-in_err-give g c =
    let ss = g.A.AsBytes.slices c.args.self.now.item.now in
    let a = slot ss c.args.k in
    let q = word_turn ss c.args.k c.loop-i.i c.args.bytes c.div_ceil-i-end.result c.min.result _ c.to_le_bytes-word.result (slot-formed ss c.args.k (length_ok ss c.args.k _ (sym c.requires)).1 (g.met.A.AsBytes.formed c.args.self.now.item.now)) c.requires c.div_ceil-i-end.ensures c.loop-i-test.true c.min.ensures c.in_ok-slice_word.ensures c.to_le_bytes-word.ensures in
    stops c.from_residual-in_err-give.result c.from_residual-in_err-give.ensures.1 (stop_at (chunks 8 (words_for a.bytes) (contents a)) c.loop-i.i _ q.0 q.1 c.loop-i.invariant c.in_err-give.ensures)

pub loop-i-preserved : goal.loop-i-preserved
loop-i-preserved g c =
    let ss = g.A.AsBytes.slices c.args.self.now.item.now in
    let a = slot ss c.args.k in
    let q = word_turn ss c.args.k c.loop-i.i c.args.bytes c.div_ceil-i-end.result c.min.result _ c.to_le_bytes-word.result (slot-formed ss c.args.k (length_ok ss c.args.k _ (sym c.requires)).1 (g.met.A.AsBytes.formed c.args.self.now.item.now)) c.requires c.div_ceil-i-end.ensures c.loop-i-test.true c.min.ensures c.in_ok-slice_word.ensures c.to_le_bytes-word.ensures in
    took_more (chunks 8 (words_for a.bytes) (contents a)) c.loop-i.i _ q.0 q.1 c.loop-i.invariant c.in_ok-give.ensures

pub returns : goal.returns
returns g c =
    let ss = g.A.AsBytes.slices c.args.self.now.item.now in
    let a = slot ss c.args.k in
    took_all (chunks 8 (words_for a.bytes) (contents a)) c.loop-i.i (omega (arith, length-chunks 8 (words_for a.bytes) (contents a), length_ok ss c.args.k _ (sym c.requires), c.div_ceil-i-end.ensures)) c.loop-i.invariant
