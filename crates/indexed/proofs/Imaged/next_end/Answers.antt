use Rattle.std.proofs.Common.{◌+◌, Ok, ap, ◌∙◌, arith}
use Rattle.indexed.proofs.ImageLemmas.{index_below, index_next, length-image, long_err}
use Rattle.indexed.proofs.Imaged.next_end.Goals as goal

pub next_multiple_of-requires-clause-fits : goal.next_multiple_of-requires-clause-fits
next_multiple_of-requires-clause-fits g c =
    omega (arith, index_below (g.A.AsBytes.slices c.args.self.now.item.now) c.args.k c.args.end (g.met.A.AsBytes.formed c.args.self.now.item.now) c.args.self.now.short (omega (arith, c.requires.there)) c.requires.this)

pub returns-in_err-slice_len : goal.returns-in_err-slice_len
returns-in_err-slice_len g c =
    let ss = g.A.AsBytes.slices c.args.self.now.item.now in
    absurd (omega (arith, (long_err ss c.args.k _ (g.met.A.AsBytes.formed c.args.self.now.item.now) (omega (arith, c.requires, length-image ss)) c.in_err-slice_len.ensures).1))

pub overflow_add-result : goal.overflow_add-result
overflow_add-result g c =
    let ss = g.A.AsBytes.slices c.args.self.now.item.now in
    let e = index_next ss c.args.k _ c.args.end c.in_ok-slice_len.ensures c.requires.this in
    omega (arith, c.next_multiple_of.ensures.value, index_below ss (c.args.k + 1) _ (g.met.A.AsBytes.formed c.args.self.now.item.now) c.args.self.now.short (omega (arith, c.requires.there)) e)

pub returns : goal.returns
returns g c =
    ap (λ e. Ok (e + c.in_ok-slice_len.field-0)) c.next_multiple_of.ensures.value
    ∙ ap Ok (index_next (g.A.AsBytes.slices c.args.self.now.item.now) c.args.k c.in_ok-slice_len.field-0 c.args.end c.in_ok-slice_len.ensures c.requires.this)
