use Rattle.std.proofs.Common.{◌*◌, ◌+◌, ◌^◌, ◌<◌, ◌≤◌, [], ◌∷◌, Ok, sym, ap, ◌∙◌, arith, mod-eq_of_lt, mul-le-mul_left}
use Rattle.column.specs.Column.{element}
use Rattle.column.specs.Run.{word_run}
use Rattle.decode.specs.Decode.{slice_in}
use Rattle.read.specs.Form.{list_of}
use Rattle.offsets.proofs.FormLemmas.{bounds_stand, strides-is, strides_fit}
use Rattle.offsets.proofs.StridesLemmas.{element-bounds, element-head}
use Rattle.offsets.proofs.form.StridesFromBytes.form_get.Goals as goal

pub returns-then-i-length : goal.returns-then-i-length
returns-then-i-length g c h =
    let t = c.args.form.now in
    let ws = g.S.Store.words c.args.store.now in
    let l : c.args.i + 1 ≤ t.head.length = omega (arith, c.if-i-length.true) in
    let fits : t.head.stride * (c.args.i + 1) < 2 ^ 64 = omega (arith, strides_fit t ws h, mul-le-mul_left t.head.stride l) in
    ap Ok (mod-eq_of_lt fits)
    ∙ element-head t.head.stride t.head.length (list_of word_run (slice_in ws t.bounds ∷ [])) c.args.i c.if-i-length.true
    ∙ ap (λ xs. element xs c.args.i) (sym (strides-is t ws h))

pub returns : goal.returns
returns g c h =
    let t = c.args.form.now in
    let ws = g.S.Store.words c.args.store.now in
    c.form_get.ensures (bounds_stand t ws h)
    ∙ element-bounds t.head.stride t.head.length (list_of word_run (slice_in ws t.bounds ∷ [])) c.args.i c.if-i-length.false
    ∙ ap (λ xs. element xs c.args.i) (sym (strides-is t ws h))
