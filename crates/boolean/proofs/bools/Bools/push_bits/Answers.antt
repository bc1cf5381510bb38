-- All bits are taken where no word is completed, and else exactly when the column below takes the word.
use Rattle.std.proofs.Common.{Err, refl, ap, ◌∙◌, arith}
use Rattle.std.proofs.lemmas.Result.{err_from_is_err_and}
use Rattle.boolean.proofs.BitsLemmas.{kept, still_few, length_most, grown_below, grown_above, no_room, pushed_below, pushed_refused, pushed_above}
use Rattle.boolean.proofs.bools.Bools.push_bits.Goals as goal

pub overflow_sub-len : goal.overflow_sub-len
overflow_sub-len g c = let old = c.args.self.now in omega (arith, c.len.ensures, length_most (kept _ _ _ (g.met.C.Listed.counted old.values) (g.met.C.Column.held old.values) old.few old.clean old.short))

pub returns-then-count-len : goal.returns-then-count-len
returns-then-count-len g c =
    let old = c.args.self.now in
    let none =
    no_room (kept _ _ _ (g.met.C.Listed.counted old.values) (g.met.C.Column.held old.values) old.few old.clean old.short) c.args.bits c.args.count c.if-not-bits_given.ensures g.C.Column.takes (g.C.Column.areas old.values)
    (omega (arith, c.len.ensures)) c.at_start-then-count-len.result c.at_start-then-count-len.ensures in
    record { answer = none.answer; after = none.after; same = refl }

pub invariant_of-self : goal.invariant_of-self
invariant_of-self g c =
    let old = c.args.self.now in
    let grown = grown_below (kept _ _ _ (g.met.C.Listed.counted old.values) (g.met.C.Column.held old.values) old.few old.clean old.short) c.args.bits c.args.count c.if-not-bits_given.ensures (omega (arith, c.len.ensures)) c.if-total-lt64.true in
    record { few = grown.few; clean = grown.clean; short = still_few _ _ (g.met.C.Listed.counted _) grown.short }

pub returns-then-total-lt64 : goal.returns-then-total-lt64
returns-then-total-lt64 g c =
    let old = c.args.self.now in
    let all =
    pushed_below (kept _ _ _ (g.met.C.Listed.counted old.values) (g.met.C.Column.held old.values) old.few old.clean old.short) c.args.bits c.args.count c.if-not-bits_given.ensures g.C.Column.takes (g.C.Column.areas old.values)
    (omega (arith, c.len.ensures)) c.if-total-lt64.true in
    record { answer = all.answer; after = all.after; same = refl }

pub returns-in_err-push : goal.returns-in_err-push
returns-in_err-push g c =
    let old = c.args.self.now in
    let p = err_from_is_err_and c.from_residual.result c.from_residual.ensures.1 in
    let none =
    pushed_refused (kept _ _ _ (g.met.C.Listed.counted old.values) (g.met.C.Column.held old.values) old.few old.clean old.short) c.args.bits c.args.count c.if-not-bits_given.ensures g.C.Column.takes (g.C.Column.areas old.values)
    (omega (arith, c.len.ensures)) c.if-total-lt64.false _ c.in_err-push.ensures.after _ c.in_err-push.ensures.answer in
    record { answer = p.1 ∙ ap Err p.2 ∙ none.answer; after = none.after; same = c.in_err-push.ensures.same }

pub invariant_of-self-2 : goal.invariant_of-self-2
invariant_of-self-2 g c =
    let old = c.args.self.now in
    let grown =
    grown_above (kept _ _ _ (g.met.C.Listed.counted old.values) (g.met.C.Column.held old.values) old.few old.clean old.short) c.args.bits c.args.count c.if-not-bits_given.ensures (omega (arith, c.len.ensures)) c.if-total-lt64.false
    _ c.in_ok-push.ensures.answer _ c.in_ok-push.ensures.after c.unbounded_shr.result c.unbounded_shr.ensures in
    record { few = grown.few; clean = grown.clean; short = still_few _ _ (g.met.C.Listed.counted _) grown.short }

pub returns : goal.returns
returns g c =
    let old = c.args.self.now in
    let all =
    pushed_above (kept _ _ _ (g.met.C.Listed.counted old.values) (g.met.C.Column.held old.values) old.few old.clean old.short) c.args.bits c.args.count c.if-not-bits_given.ensures g.C.Column.takes (g.C.Column.areas old.values)
    (omega (arith, c.len.ensures)) c.if-total-lt64.false _ c.in_ok-push.ensures.after c.in_ok-push.ensures.answer c.unbounded_shr.result c.unbounded_shr.ensures in
    record { answer = all.answer; after = all.after; same = c.in_ok-push.ensures.same }
