-- Windows over a store.
use Rattle.std.specs.Prelude.{◌≡◌, ℕ, ◌+◌, ◌≤◌, false, List, length, Ok, Err, Result, nat_le}
use Rattle.area.specs.Fault.{refuse}
use Rattle.area.specs.declared.fault.Fault.{Fault}
use Rattle.area.specs.declared.fault.Refusal.TheVariants.{WindowOutside}
use Rattle.storage.specs.declared.store.Window.{Window}

-- a window that lies inside its store is made over it; any other is refused with 16
module _ {S : Type 0} {v : _} (f : S → List ℕ) where
  abbrev pub WindowAnswer : Result (Window S v) Fault → S → ℕ → ℕ → Type 0
  WindowAnswer (Ok w) s a n = (a + n ≤ length (f s)) × ((w.store ≡ s) × ((w.from ≡ a) × (w.size ≡ n)))
  WindowAnswer (Err e) s a n = (nat_le (a + n) (length (f s)) ≡ false) × (e ≡ refuse WindowOutside 0)
