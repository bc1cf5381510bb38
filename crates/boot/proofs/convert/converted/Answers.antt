use Rattle.std.proofs.Common.{◌≡◌, length, Ok, ap, ◌∙◌, subst}
use Rattle.read.specs.Admission.{admission}
use Rattle.storage.specs.Store.{join_words}
use Rattle.storage.specs.StoreLaws.{joined_whole}
use Rattle.stash.specs.Convert.{ConvertsInto}
use Rattle.stash.specs.History.{bytes, holds, passed}
use Rattle.boot.proofs.BootLemmas.{booted}
use Rattle.boot.proofs.convert.converted.Goals as goal

pub returns : goal.returns
returns g c =
    let F = g.C.Kind.format in
    let b = g.C.Column.areas c.args.ready in
    let s = c.in_ok-new.ensures in
    let a = c.in_ok-table.ensures in
    let e = ap join_words s.1 in
    let T = a.0 ∙ ap bytes e in
    booted g.C.Elem.Value.fits F g.C.Column.takes b c.args.image.now c.args.area.now c.convert_into.new.area (joined_whole c.args.image.now (λ i. (c.type_inv.image i).fits)) _
    s.0
    (subst (λ ws. passed (admission F ws) ≡ Ok tt) e a.1)
    (c.len-length.ensures ∙ ap (λ U. length (holds F U)) T)
    (subst (λ U. ConvertsInto g.C.Elem.Value.fits F g.C.Column.takes U b c.args.area.now c.convert_into.new.area (Ok c.in_ok-bytes.bytes)) T c.in_ok-bytes.ensures.claim)
