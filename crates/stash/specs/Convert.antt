-- A conversion: an accepted `make_typed`, and then an accepted write.
use Rattle.std.specs.Prelude.{◌≡◌, ℕ, ◌*◌, Bool, List, ◌++◌, length, drop, Ok, Err, Result}
use Rattle.area.specs.Slice.{spill}
use Rattle.area.specs.declared.fault.Fault.{Fault}
use Rattle.column.specs.Column.{Areas}
use Rattle.indexed.specs.Image.{image_of}
use Rattle.column.specs.Kind.{Format}
use Rattle.indexed.specs.Pieces.{refusal_of}
use Rattle.storage.specs.declared.write.Full.{Full}
use Rattle.storage.specs.declared.write.WriteBytes.{Ghosts as SinkMembers}
use Rattle.stash.specs.Claim.{Claim, Converted}
use Rattle.stash.specs.History.{History, Table, after, answer, typed_answer}
use Rattle.stash.specs.Written.{Reloads, TableWritten}
use Rattle.stash.specs.declared.convert.ConvertFault.{ConvertFault}
use Rattle.stash.specs.declared.convert.ConvertFault.TheVariants.{Refused, Write}

-- the refusal that a fault of a conversion carries
abbrev pub carried : {X : Type 0} → ConvertFault X → Fault
carried (Refused f) = f
carried (Write f) = refusal_of f

-- over a sink by its members, and tables of a kind F in columns that take by t
module _ {W X E : Type 0} (sink : SinkMembers W X) (fits : E → Bool) (F : Format E) (t : Areas → List E → E → Bool) where
  -- What is owed where a table T was converted, and the sink went from s to u: for every list that a history of the
  -- table records, the sink has taken the image of just that list, and the claim holds of this image.
  abbrev pub Owed : Table E → W → W → Type 0
  Owed T s u = (xs : List E) → History F t fits T xs → (sink.taken u ≡ sink.taken s ++ spill (image_of F xs)) × (Converted fits F t T xs (image_of F xs) × Claim fits F xs (image_of F xs))

  -- what a conversion with a ready column of areas b answers and leaves
  abbrev pub Converts : Table E → Areas → W → W → Result (Unit {0}) (ConvertFault X) → Type 0
  Converts T b s u (Ok v) = (answer F t T (typed_answer b) ≡ Ok tt) × (TableWritten sink F (after F t T (typed_answer b)) s u (Ok tt) × Owed T s u)
  Converts T b s u (Err (Refused f)) = (answer F t T (typed_answer b) ≡ Err f) × (u ≡ s)
  Converts T b s u (Err (Write f)) = (answer F t T (typed_answer b) ≡ Ok tt) × TableWritten sink F (after F t T (typed_answer b)) s u (Err f)

-- the same into the start of a byte area: the first n bytes are the image, and nothing else of it changes
module _ {E : Type 0} (fits : E → Bool) (F : Format E) (t : Areas → List E → E → Bool) where
  abbrev pub OwedInto : Table E → List ℕ → List ℕ → ℕ → Type 0
  OwedInto T was area n = (xs : List E) → History F t fits T xs → (n ≡ 8 * length (image_of F xs)) × (area ≡ spill (image_of F xs) ++ drop n was) × (Converted fits F t T xs (image_of F xs) × Claim fits F xs (image_of F xs))

  abbrev pub ConvertsInto : Table E → Areas → List ℕ → List ℕ → Result ℕ (ConvertFault Full) → Type 0
  ConvertsInto T b was area (Ok n) = (answer F t T (typed_answer b) ≡ Ok tt) × (Reloads F (after F t T (typed_answer b)) was area (Ok n) × OwedInto T was area n)
  ConvertsInto T b was area (Err (Refused f)) = (answer F t T (typed_answer b) ≡ Err f) × (area ≡ was)
  ConvertsInto T b was area (Err (Write f)) = (answer F t T (typed_answer b) ≡ Ok tt) × Reloads F (after F t T (typed_answer b)) was area (Err f)
