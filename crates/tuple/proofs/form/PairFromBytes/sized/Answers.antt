-- The first side's slices, then the second's.
use Rattle.std.proofs.Common.{◌≡◌, ◌+◌, drop, sym, ap, ◌∙◌, arith}
use Rattle.column.specs.Kind.{first_refused, further}
use Rattle.read.specs.Form.{size_answer, slices_within}
use Rattle.read.proofs.FormLemmas.{size-passed, there_few}
use Rattle.read.proofs.PlaceLemmas.{size_right, slices_left, slices_right}
use Rattle.tuple.proofs.form.PairFromBytes.sized.Goals as goal

pub returns : goal.returns
returns g c t =
    let F = g.A.Kind.format in
    let G = g.B.Kind.format in
    let d = c.args.image.now in
    let ws = g.S.Store.words d.store in
    let a = c.args.at in
    let b = c.saturating_add.result in
    let e : b ≡ a + F.slots = omega (arith, there_few ws d.asked a (F.slots + G.slots) t, c.slice_count.ensures) in
    let l = slices_left ws a F.slots G.slots in
    let r = slices_right ws a F.slots G.slots b e in
    let o = size-passed a _ _ (c.in_ok-sized.ensures (omega (arith, t)) ∙ ap (λ ss. size_answer a (F.sized ss)) (sym l)) in
    c.sized-2.ensures (omega (arith, t, e))
    ∙ ap (λ ss. size_answer b (G.sized ss)) (sym r)
    ∙ size_right a F.slots b _ e
    ∙ ap (λ q. size_answer a (first_refused q (further F.slots (G.sized (drop F.slots (slices_within ws a (F.slots + G.slots))))))) (sym o)
