use Rattle.std.proofs.Common.{sym, ◌∙◌, zero-add, arith}
use Rattle.column.specs.Kind.{slot}
use Rattle.indexed.proofs.ImageLemmas.{err_not_ok, word_ok, paste_turn}
use Rattle.indexed.proofs.PieceLemmas.{length_there}
use Rattle.indexed.proofs.Imaged.write_slice.Goals as goal

pub returns-in_err-part : goal.returns-in_err-part
returns-in_err-part g c =
    absurd (err_not_ok (c.in_err-part.ensures ∙ word_ok (g.A.AsBytes.slices c.args.self.now.item.now) c.args.k c.loop-i.i (length_there (g.A.AsBytes.slices c.args.self.now.item.now) c.args.k (g.met.A.AsBytes.formed c.args.self.now.item.now) c.requires.there c.args.self.now.short) (omega (arith, c.requires.room))))

pub loop-i-preserved : goal.loop-i-preserved
loop-i-preserved g c =
    let e = c.in_ok-part.ensures ∙ word_ok (g.A.AsBytes.slices c.args.self.now.item.now) c.args.k c.loop-i.i (length_there (g.A.AsBytes.slices c.args.self.now.item.now) c.args.k (g.met.A.AsBytes.formed c.args.self.now.item.now) c.requires.there c.args.self.now.short) (omega (arith, c.requires.room)) in
    paste_turn c.args.part.now 0 (slot (g.A.AsBytes.slices c.args.self.now.item.now) c.args.k).words c.loop-i.part c.loop-i.i _ _ c.loop-i.invariant (sym (zero-add c.loop-i.i)) (cc) (omega arith) (omega (arith, c.requires.room))
