use Rattle.offsets.proofs.FormLemmas.{bounds_stand, strides_stood}
use Rattle.offsets.proofs.form.bounds_of.Goals as goal

pub invariant_of-result : goal.invariant_of-result
invariant_of-result g c = let s = bounds_stand c.args.view.now.form.now (g.S.Store.words c.args.view.now.store.now) (strides_stood c.args.view.now.stands) in record { passed = s.passed; stands = ∣ s ∣₁ }
