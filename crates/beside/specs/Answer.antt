-- What C is answered, and answers made of answers.
use Rattle.std.specs.Prelude.{ℕ, List, Ok, Err, Result}
use Rattle.area.specs.Fault.{number_of}
use Rattle.area.specs.declared.fault.Fault.{Fault}

module _ {X : Type 0} where
  -- 0, or the number of the refusal
  abbrev pub answer_number : Result X Fault → ℕ
  answer_number (Ok x) = 0
  answer_number (Err f) = number_of f.refusal

  -- a value, which a refusal leaves
  abbrev pub answer_value : Result X Fault → X → X
  answer_value (Ok x) y = x
  answer_value (Err f) y = y

-- the same answer, its value told otherwise
abbrev pub told : {X Y : Type 0} → (X → Y) → Result X Fault → Result Y Fault
told g (Ok x) = Ok (g x)
told g (Err f) = Err f

-- what is answered of the list that an image is admitted with, or the first question that it fails
abbrev pub asked_of : {E X : Type 0} → Result (List E) Fault → (List E → Result X Fault) → Result X Fault
asked_of (Ok xs) g = g xs
asked_of (Err f) g = Err f
