-- A column that is given the elements of numbers, and its image.
use Rattle.std.specs.Prelude.{◌≡◌, ℕ, Bool, cond, List, [], map, Ok, Err, Result, nat_le}
use Rattle.std.specs.List.{list_all}
use Rattle.area.specs.Fault.{refuse}
use Rattle.area.specs.declared.fault.Fault.{Fault}
use Rattle.area.specs.declared.fault.Refusal.TheVariants.{NotTaken}
use Rattle.column.specs.Column.{append_answer, none}
use Rattle.column.specs.Kind.{Format}
use Rattle.indexed.specs.Image.{encode_answer, encoded}
use Rattle.storage.specs.declared.write.Full.{Full}
use Rattle.stash.specs.Convert.{carried}
use Rattle.stash.specs.History.{typed}
use Rattle.stash.specs.Stash.{ColumnMembers}
use Rattle.stash.specs.Written.{Reloads}
use Rattle.stash.specs.declared.convert.ConvertFault.{ConvertFault}
use Rattle.stash.specs.declared.convert.ConvertFault.TheVariants.{Refused, Write}
use Rattle.beside.specs.Answer.{asked_of}

-- elements that the numbers up to a most stand for, in a column that takes by t
module _ {E : Type 0} (most : ℕ) (of : ℕ → E) (t : List E → E → Bool) where
  -- The list after a push of each number's element: refused with 12 where a number is past the most, or else where an element is
  -- not taken. The place of the first is 0, of the second how many were taken before.
  abbrev pub pushed_list : List ℕ → Result (List E) Fault
  pushed_list ns = cond (list_all (λ n. nat_le n most) ns) (elim (append_answer t [] (map of ns)) [ Ok u ↦ Ok (map of ns) | Err f ↦ Err f ]) (Err (refuse NotTaken 0))

-- for a kind: the image of a list encoded over the start of an area, or what refused the list, which leaves the area
abbrev pub encoded_answer : {E : Type 0} → Format E → Result (List E) Fault → List ℕ → Result ℕ Fault
encoded_answer F l was = asked_of l (λ xs. encode_answer (F.writing xs) was 0)

abbrev pub encoded_area : {E : Type 0} → Format E → Result (List E) Fault → List ℕ → List ℕ
encoded_area F (Ok xs) was = encoded (F.writing xs) was 0
encoded_area F (Err f) was = was

-- A list written over the start of an area piece by piece. What refused the list leaves the area; a write that is refused leaves
-- the pieces of the image before the one that does not fit.
module _ {E : Type 0} (F : Format E) where
  abbrev pub Writes : Result (List E) Fault → List ℕ → List ℕ → Result ℕ (ConvertFault Full) → Type 0
  Writes (Ok xs) was area (Ok n) = Reloads F (typed none xs) was area (Ok n)
  Writes (Ok xs) was area (Err (Write f)) = Reloads F (typed none xs) was area (Err f)
  Writes (Ok xs) was area (Err (Refused f)) = ⊥
  Writes (Err e) was area r = (r ≡ Err (Refused e)) × (area ≡ was)

-- the answer with the refusal that a fault of a write or a conversion carries
abbrev pub carried_answer : {X : Type 0} → Result X (ConvertFault Full) → Result X Fault
carried_answer (Ok x) = Ok x
carried_answer (Err f) = Err (carried f)

-- over columns by their members: one that was given the elements has the list, and the areas that it had
abbrev pub Pushes : {C E : Type 0} → ColumnMembers C E → ℕ → (ℕ → E) → C → List ℕ → Result C Fault → Type 0
Pushes column most of ready ns (Ok c) = (pushed_list most of (column.takes (column.areas ready)) ns ≡ Ok (column.list c)) × (column.areas c ≡ column.areas ready)
Pushes column most of ready ns (Err f) = pushed_list most of (column.takes (column.areas ready)) ns ≡ Err f
