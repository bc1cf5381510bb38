-- Read forms: they keep the places of accepted slices, are lent the store, and stand for the list that these read as.
use Rattle.std.specs.Prelude.{◌≡◌, ℕ, ◌+◌, ◌*◌, ◌≤◌, Bool, true, false, List, [], length, take, drop, Some, None, Ok, Err, Option, Result}
use Rattle.std.specs.List.{AllByRecursion}
use Rattle.std.proofs.Props.{props}
use Rattle.area.specs.Fault.{refuse}
use Rattle.area.specs.Slice.{Slice, WellFormed, spill}
use Rattle.area.specs.declared.fault.Fault.{Fault}
use Rattle.area.specs.declared.fault.Refusal.TheVariants.{SliceSize, SliceContent}
use Rattle.column.specs.Element.{Codec}
use Rattle.column.specs.Kind.{Format, Reading, reads, refuses}
use Rattle.decode.specs.Decode.{slices_of}

-- the list that slices read as
abbrev pub list_of : {E : Type 0} → Format E → List Slice → List E
list_of F ss = elim (F.reading ss) [ reads xs ↦ xs | refuses k ↦ [] ]

-- element i of those that stand from word p on
abbrev pub element_at : {E : Type 0} → Codec E → List ℕ → ℕ → ℕ → E
element_at C ws p i = C.value (take C.size (drop (8 * p + C.size * i) (spill ws)))

-- question 8 of a kind whose first slice has number a
abbrev pub size_answer : ℕ → Option ℕ → Result (Unit {0}) Fault
size_answer a None = Ok tt
size_answer a (Some k) = Err (refuse SliceSize (a + k))

-- n of the slices of words, from number a on
abbrev pub slices_within : List ℕ → ℕ → ℕ → List Slice
slices_within ws a n = take n (drop a (slices_of ws))

-- that there are these n
abbrev pub There : List ℕ → ℕ → ℕ → Type 0
There ws a n = a + n ≤ length (slices_of ws)

abbrev pub is_read : {E : Type 0} → Reading E → Bool
is_read (reads xs) = true
is_read (refuses k) = false

-- Slices that are accepted, whatever they read as. `Accepted` of what they read as follows; said by a test of the reading,
-- this has one proof at most, so that a type can keep it.
pub record Passed {E : Type 0} (F : Format E) (ss : List Slice) : Type 0 where
  pub count : length ss ≡ F.slots
  pub formed : AllByRecursion WellFormed ss
  pub fitting : F.sized ss ≡ None
  pub read : is_read (F.reading ss) ≡ true

pub Passed-prop : {E : Type 0} (F : Format E) (ss : List Slice) → IsProp (Passed F ss)
Passed-prop F ss = hlevel props

-- forms that stand for slices of words, and keep to something over these words
module _ {E Form : Type 0} (slices : Form → List ℕ → List Slice) (kept : Form → List ℕ → Type 0) where
  -- a form of accepted slices
  pub record Stands (F : Format E) (t : Form) (ws : List ℕ) : Type 0 where
    pub keeps : kept t ws
    pub passed : Passed F (slices t ws)

  -- where any two proofs of what is kept are equal
  pub Stands-prop : ((t : Form) (ws : List ℕ) → IsProp (kept t ws)) → (F : Format E) (t : Form) (ws : List ℕ) → IsProp (Stands F t ws)
  Stands-prop once F t ws = hlevel (props, once)

  -- question 9 of slices ss, of which the first has number a: the form of what can be read
  abbrev pub FormAnswer : List ℕ → List Slice → ℕ → Reading E → Result Form Fault → Type 0
  FormAnswer ws ss a (reads xs) (Ok t) = kept t ws × (slices t ws ≡ ss)
  FormAnswer ws ss a (reads xs) (Err e) = ⊥
  FormAnswer ws ss a (refuses k) (Ok t) = ⊥
  FormAnswer ws ss a (refuses k) (Err e) = e ≡ refuse SliceContent (a + k)
