use Rattle.std.proofs.Common.{take, drop, sym, ◌∙◌, arith}
use Rattle.storage.proofs.StoreLemmas.{length_window, slice_get_window}
use Rattle.std.proofs.lemmas.Option.{slice_get_past}
use Rattle.storage.proofs.store.WindowStore.word.Goals as goal

pub returns-then-i-self : goal.returns-then-i-self
returns-then-i-self g c =
    let s = c.args.self.now in
    let ws = g.S.Store.words s.store in
    sym (slice_get_past (take s.size (drop s.from ws)) c.args.i (omega (arith, length_window ws s.from s.size)))

pub returns : goal.returns
returns g c =
    let s = c.args.self.now in
    c.word.ensures ∙ sym (slice_get_window (g.S.Store.words s.store) s.from s.size c.args.i (omega arith) (omega (arith, s.inside)))
