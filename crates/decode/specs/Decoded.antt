-- What passes the questions is decoded; all else is refused with the first that it fails.
use Rattle.std.specs.Prelude.{◌≡◌, ℕ, List, None, Some, Ok, Err, Option, Result}
use Rattle.area.specs.declared.fault.Fault.{Fault}
use Rattle.storage.specs.declared.store.Store.{Ghosts as StoreMembers}
use Rattle.decode.specs.Decode.{bytes_fault, structure_fault}
use Rattle.decode.specs.declared.decode.Decoded.{Decoded}
use Rattle.decode.specs.declared.decoded.DecodedStore.{DecodedStore}

abbrev pub DecodedAnswer : {S : Type 0} (g : StoreMembers S) → Option ℕ → S → Result (DecodedStore S g) Fault → Type 0
DecodedAnswer g m s (Ok d) = (structure_fault m (g.words s) ≡ None) × (d.store ≡ s)
DecodedAnswer g m s (Err e) = structure_fault m (g.words s) ≡ Some e

-- the same of a byte area
abbrev pub PartsAnswer : List ℕ → Result Decoded Fault → Type 0
PartsAnswer bs (Ok d) = (bytes_fault bs ≡ None) × (d.slices.store.bytes.now ≡ bs)
PartsAnswer bs (Err e) = bytes_fault bs ≡ Some e
