-- The values of the code as tables and calls.
use Rattle.std.specs.Prelude.{◌≡◌, ℕ, Bool, List, [], Ok, Err, Result}
use Rattle.area.specs.declared.fault.Fault.{Fault}
use Rattle.area.specs.Slice.{Slice}
use Rattle.column.specs.Column.{Areas, append_answer}
use Rattle.column.specs.Kind.{Format}
use Rattle.read.specs.Admission.{admission}
use Rattle.read.specs.declared.validate.Admitted.{Admitted}
use Rattle.storage.specs.declared.store.Store.{Ghosts as StoreMembers}
use Rattle.stash.specs.History.{Call, Table, align, append, bytes, clear, typed_answer, passed, push, store_aligned, store_bytes, typed}
use Rattle.stash.specs.declared.stash.Event.{Event}
use Rattle.stash.specs.declared.stash.Event.TheVariants as event
use Rattle.stash.specs.declared.stash.State.{State}
use Rattle.stash.specs.declared.stash.State.TheVariants as state

-- the members of a column, with those of its kind, as a clause has them in `C.Column`
abbrev pub ColumnMembers : Type 0 → Type 0 → Type 0
ColumnMembers C E = record { slices : C → List Slice; list : C → List E; format : Format E; elements : C → ℕ; areas : C → Areas; takes : Areas → List E → E → Bool }

-- over columns by their members
module _ {C E : Type 0} (column : ColumnMembers C E) where
  module _ {B A Form : Type 0} where
    -- what a table is, by the areas and the list of its column or the words of its store
    abbrev pub table_of : {r k v : _} {f : StoreMembers B} {g : StoreMembers A} → State C (Admitted C B Form E r k v f) (Admitted C A Form E r k v g) → Table E
    table_of (state.Typed c) = typed (column.areas c) (column.list c)
    table_of {f} (state.Bytes a) = bytes (f.words a.store)
    table_of {g} (state.Align a) = align (g.words a.store)

    -- a stored image that is admitted becomes a Bytes table; any other is refused as admission refuses it
    abbrev pub AdmittedTable : {r k v : _} {f : StoreMembers B} {g : StoreMembers A} → List ℕ → Result (State C (Admitted C B Form E r k v f) (Admitted C A Form E r k v g)) Fault → Type 0
    AdmittedTable ws (Ok T) = (table_of T ≡ bytes ws) × (passed (admission column.format ws) ≡ Ok tt)
    AdmittedTable ws (Err e) = admission column.format ws ≡ Err e

  -- a ready column that was filled with a list, or the element at which it stopped
  abbrev pub Filled : C → List E → Result C Fault → Type 0
  Filled ready xs (Ok c) = (column.list c ≡ xs) × ((column.areas c ≡ column.areas ready) × (append_answer (column.takes (column.areas ready)) [] xs ≡ Ok tt))
  Filled ready xs (Err e) = append_answer (column.takes (column.areas ready)) [] xs ≡ Err e

  -- the call of an event: a source is known by its list, a ready column by its areas, a store by its words
  abbrev pub call_of : {R B A : Type 0} → (R → List E) → StoreMembers B → StoreMembers A → Event C R B A E → Call E
  call_of list f g (event.Push x) = push x
  call_of list f g (event.Append r i j) = append (list r) i j
  call_of list f g event.Clear = clear
  call_of list f g (event.MakeTyped c) = typed_answer (column.areas c)
  call_of list f g (event.Bytes s) = store_bytes (f.words s)
  call_of list f g (event.Align s) = store_aligned (g.words s)
