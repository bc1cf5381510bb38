-- Admission: questions 1 to 9 of a store's words for a kind, in order.
use Rattle.std.specs.Prelude.{◌≡◌, ℕ, List, Some, None, Ok, Err, Result}
use Rattle.area.specs.Fault.{refuse}
use Rattle.area.specs.Slice.{Slice}
use Rattle.area.specs.declared.fault.Fault.{Fault}
use Rattle.area.specs.declared.fault.Refusal.TheVariants.{SliceSize, SliceContent}
use Rattle.column.specs.Kind.{Format, Reading, reads, refuses}
use Rattle.decode.specs.Decode.{slices_of, structure_fault}

-- question 9
abbrev pub content_answer : {E : Type 0} → Reading E → Result (List E) Fault
content_answer (reads xs) = Ok xs
content_answer (refuses k) = Err (refuse SliceContent k)

-- question 8 of all slices, and then 9
abbrev pub read_answer : {E : Type 0} → Format E → List Slice → Result (List E) Fault
read_answer F ss = elim (F.sized ss) [ None ↦ content_answer (F.reading ss) | Some k ↦ Err (refuse SliceSize k) ]

-- the list that words are admitted with, or the first question that they fail
abbrev pub admission : {E : Type 0} → Format E → List ℕ → Result (List E) Fault
admission F ws = elim (structure_fault (Some F.slots) ws) [ None ↦ read_answer F (slices_of ws) | Some f ↦ Err f ]

-- a store is admitted with the list that its words have, or refused with the first question that they fail; f says which
-- words a store has, and store and list what was admitted
module _ {E S A : Type 0} (F : Format E) (f : S → List ℕ) (store : A → S) (list : A → List E) where
  abbrev pub Admits : S → Result A Fault → Type 0
  Admits s (Ok a) = (store a ≡ s) × (admission F (f s) ≡ Ok (list a))
  Admits s (Err e) = admission F (f s) ≡ Err e
