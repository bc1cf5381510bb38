use Rattle.std.proofs.Common.{◌≡◌, None, sym, ◌∙◌, rules}
use Rattle.decode.specs.Decode.{structure_fault}
use Rattle.decode.proofs.DecodeLemmas.{count_slices, index_counted}
use Rattle.decode.proofs.decoded.DecodedStore.asked.Goals as goal

pub invariant_of-result : goal.invariant_of-result
invariant_of-result g c =
    let ws = g.S.Store.words c.args.store in
    let a : structure_fault None ws ≡ None = search rules in
    record { asked = a; counted = (index_counted ws c.in_ok-count.count (sym c.in_ok-count.ensures)).1 ∙ sym (count_slices ws a) }
