-- Records: a kind byte, then a body. 1 is a push (a word, a bad byte 0 or 1, a wear byte), 2 is clear, 3 is image.
use Rattle.std.specs.Prelude.{ℕ, zero, suc, ◌-◌, Bool, cond, ◌&&◌, List, [], ◌∷◌, length, take, Some, None, Ok, Err, Option, Result, ◌==◌, nat_le, slice_index}
use Rattle.area.specs.Digits.{number}
use Rattle.area.specs.Fault.{refuse}
use Rattle.area.specs.declared.fault.Fault.{Fault}
use Rattle.area.specs.declared.fault.Refusal.TheVariants.{UnknownRecord}
use Rattle.card.specs.declared.record.Record.{Record}
use Rattle.card.specs.declared.record.Record.TheVariants.{Push, Clear, Image}

-- an element of a block table: end, bad mark, wear class
abbrev pub Block : Type 0
Block = ℕ × (Bool × ℕ)

-- the push that a body writes: eight bytes of end, the bad byte and the wear byte
abbrev pub push_of : List ℕ → Option (Record Block)
push_of bs = cond (nat_le 10 (length bs) && nat_le (slice_index bs 8) 1) (Some (Push (number 256 (take 8 bs), ((slice_index bs 8 == 1), slice_index bs 9)))) None

-- the record of a kind byte and what follows, and the record that bytes begin with
abbrev pub record_by : ℕ → List ℕ → Option (Record Block)
record_by k bs = cond (k == 1) (push_of bs) (cond (k == 2) (Some Clear) (cond (k == 3) (Some Image) None))

abbrev pub record_of : List ℕ → Option (Record Block)
record_of [] = None
record_of (k ∷ bs) = record_by k bs

-- the answer to the reading of record n of an input
abbrev pub record_answer : Option (Record Block) → ℕ → Result (Record Block) Fault
record_answer (Some r) n = Ok r
record_answer None n = Err (refuse UnknownRecord n)

abbrev pub size_of : Record Block → ℕ
size_of (Push x) = 11
size_of Clear = 1
size_of Image = 1

-- The records of an input, in order. What is no record ends the reading, and stands as the last. The first argument is
-- how many bytes still belong to the record before.
abbrev pub records_after : ℕ → List ℕ → List (Option (Record Block))
records_after n [] = []
records_after zero (k ∷ bs) = elim (record_of (k ∷ bs)) [ Some r ↦ Some r ∷ records_after (size_of r - 1) bs | None ↦ None ∷ [] ]
records_after (suc n) (k ∷ bs) = records_after n bs

abbrev pub records : List ℕ → List (Option (Record Block))
records = records_after 0

-- what is answered to the records of an input one after the other, of which the first has number n
abbrev pub answers : ℕ → List (Option (Record Block)) → List (Result (Record Block) Fault)
answers n [] = []
answers n (r ∷ rs) = record_answer r n ∷ answers (suc n) rs
