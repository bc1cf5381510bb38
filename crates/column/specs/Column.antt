-- What a column answers, as functions of its list, its slices and the size of its areas.
use Rattle.std.specs.Prelude.{ℕ, zero, suc, ◌-◌, ◌*◌, min, Bool, cond, ◌&&◌, List, [], ◌∷◌, ◌++◌, length, take, Ok, Err, Result, ◌==◌, nat_le, nat_lt}
use Rattle.std.specs.List.{between}
use Rattle.area.specs.Fault.{refuse}
use Rattle.area.specs.Slice.{Slice}
use Rattle.area.specs.declared.fault.Fault.{Fault}
use Rattle.area.specs.declared.fault.Refusal.TheVariants.{OutOfRange, NotTaken, ImageTooLong}
use Rattle.column.specs.Kind.{CAP, slot}
use Rattle.column.specs.declared.kind.Side.{Side}
use Rattle.column.specs.declared.kind.Side.TheVariants.{First, Second}

-- the areas that a column lives in, by their size in cells
pub data Areas : Type 0 where
  none : Areas
  cells : ℕ → Areas
  beside : Areas → Areas → Areas

-- the element at a place, or refusal 10
abbrev pub element : {E : Type 0} → List E → ℕ → Result E Fault
element [] i = Err (refuse OutOfRange 0)
element (x ∷ xs) zero = Ok x
element (x ∷ xs) (suc i) = element xs i

-- the byte length of slice k: refusal 10 past the slices, and 15 where no image holds so many bytes
abbrev pub slice_length : List Slice → ℕ → Result ℕ Fault
slice_length ss k = cond (nat_lt k (min (length ss) CAP)) (cond (nat_le (slot ss k).bytes (8 * CAP)) (Ok (slot ss k).bytes) (Err (refuse ImageTooLong 0))) (Err (refuse OutOfRange 0))

-- word i of slice k: refused as its length is, and with 10 past the slice's words
abbrev pub word_in_slice : List Slice → ℕ → ℕ → Result ℕ Fault
word_in_slice ss k i = elim (slice_length ss k) [ Ok n ↦ element (slot ss k).words i | Err f ↦ Err f ]

-- which of n slices and then m others slice k is of, and its number there: refusal 10 past them, and where no image has so many
abbrev pub side_of : ℕ → ℕ → ℕ → Result Side Fault
side_of n m k = cond (nat_lt k n) (Ok (First k)) (cond (nat_lt k CAP && nat_lt (k - n) m) (Ok (Second (k - n))) (Err (refuse OutOfRange 0)))

-- the answer to a push that is taken or not, and the list after it
abbrev pub push_answer : Bool → Result (Unit {0}) Fault
push_answer taken = cond taken (Ok tt) (Err (refuse NotTaken 0))

abbrev pub pushed : {E : Type 0} → Bool → List E → E → List E
pushed taken xs x = cond taken (xs ++ x ∷ []) xs

-- how many of ys are taken, one after the other, up to the first that is not; t says what a list takes next
abbrev pub taken : {E : Type 0} → (List E → E → Bool) → List E → List E → ℕ
taken t xs [] = 0
taken t xs (y ∷ ys) = cond (t xs y) (suc (taken t (xs ++ y ∷ []) ys)) 0

-- the answer to an append of ys to xs, and the list after it: refusal 12 carries how many were added
abbrev pub append_answer : {E : Type 0} → (List E → E → Bool) → List E → List E → Result (Unit {0}) Fault
append_answer t xs ys = cond (taken t xs ys == length ys) (Ok tt) (Err (refuse NotTaken (taken t xs ys)))

abbrev pub appended : {E : Type 0} → (List E → E → Bool) → List E → List E → List E
appended t xs ys = xs ++ take (taken t xs ys) ys

-- the same of the places a to b - 1 of a source: refusal 10 where the range passes its end
abbrev pub range_answer : {E : Type 0} → (List E → E → Bool) → List E → List E → ℕ → ℕ → Result (Unit {0}) Fault
range_answer t xs src a b = cond (nat_le b (length src)) (append_answer t xs (between a b src)) (Err (refuse OutOfRange 0))

abbrev pub range_appended : {E : Type 0} → (List E → E → Bool) → List E → List E → ℕ → ℕ → List E
range_appended t xs src a b = cond (nat_le b (length src)) (appended t xs (between a b src)) xs
