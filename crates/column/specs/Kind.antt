-- Kinds: how a list of elements is written as slices, how slices are read, and the laws that join the two.
use Rattle.std.specs.Prelude.{◌≡◌, ℕ, ◌+◌, ◌≤◌, Bool, true, cond, List, [], length, Some, None, Option, nat_le, slice_index, slice_index_or}
use Rattle.std.specs.List.{AllByRecursion, list_all}
use Rattle.area.specs.Slice.{Slice, WellFormed, ZeroPadded, weight}

-- no list has more elements
abbrev pub L : ℕ
L = 4294967295

-- no image has more words
abbrev pub CAP : ℕ
CAP = 536870911

-- what slices read as, or the slice at which refusal 9 is raised
pub data Reading (E : Type 0) : Type 0 where
  reads : List E → Reading E
  refuses : ℕ → Reading E

-- A kind of elements E. Refusal 8 is asked of all slices before refusal 9 is asked of any, so a reading has two
-- parts: `sized`, the first slice that refusal 8 falls on, and `reading`, which asks 9. Places count from the
-- kind's own first slice. `giving` is what a read form gives in place of the accepted slices that it stands on.
pub record Format (E : Type 0) : Type 0 where
  pub slots : ℕ
  pub writing : List E → List Slice
  pub sized : List Slice → Option ℕ
  pub reading : List Slice → Reading E
  pub giving : List Slice → List Slice

-- a list that a kind writes: each element fits its type, and there are at most L
abbrev pub Held : {E : Type 0} → (E → Bool) → List E → Type 0
Held fits xs = (list_all fits xs ≡ true) × (length xs ≤ L)

-- slices of the kind's number that are accepted and read as xs
pub record Accepted {E : Type 0} (F : Format E) (ss : List Slice) (xs : List E) : Type 0 where
  pub count : length ss ≡ F.slots
  pub formed : AllByRecursion WellFormed ss
  pub fitting : F.sized ss ≡ None
  pub reading : F.reading ss ≡ reads xs

pub record Laws {E : Type 0} (fits : E → Bool) (F : Format E) : Type 0 where
  -- what is written is the kind's number of slices, each zero padded
  pub shape : (xs : List E) → Held fits xs → (length (F.writing xs) ≡ F.slots) × AllByRecursion WellFormed (F.writing xs) × AllByRecursion ZeroPadded (F.writing xs)
  -- Return: what is written is accepted and reads as the list
  pub return : (xs : List E) → Held fits xs → (F.sized (F.writing xs) ≡ None) × (F.reading (F.writing xs) ≡ reads xs)
  -- what is read is a list that the kind writes
  pub sound : (ss : List Slice) (xs : List E) → Accepted F ss xs → Held fits xs
  -- Least: accepted slices with the same reading have together at least as many words
  pub least : (ss : List Slice) (xs : List E) → Accepted F ss xs → weight (F.writing xs) ≤ weight ss
  -- what a read form gives is zero padded, accepted, and reads as the same list
  pub given : (ss : List Slice) (xs : List E) → Accepted F ss xs → Accepted F (F.giving ss) xs × AllByRecursion ZeroPadded (F.giving ss)

-- the slice at a place; past the end, one with no word
abbrev pub slot : List Slice → ℕ → Slice
slot ss k = slice_index_or ss k (record { words = []; bytes = 0 })

-- the word at a place of a slice
abbrev pub word_of : Slice → ℕ → ℕ
word_of s i = slice_index s.words i

-- refusal 8 at slice k of what has fewer than n words
abbrev pub least_words : ℕ → ℕ → Slice → Option ℕ
least_words n k s = cond (nat_le n (length s.words)) None (Some k)

-- the first of two refusals, and a refusal n slices further on
abbrev pub first_refused : Option ℕ → Option ℕ → Option ℕ
first_refused None q = q
first_refused (Some k) q = Some k

abbrev pub further : ℕ → Option ℕ → Option ℕ
further n None = None
further n (Some k) = Some (n + k)

-- what is read of a list that was read n slices further on, or its refusal there
abbrev pub after : {D E : Type 0} → ℕ → Reading D → (List D → Reading E) → Reading E
after n (refuses k) f = refuses (n + k)
after n (reads xs) f = f xs

-- a list if it is in bounds, else refusal 9 at the kind's first slice
abbrev pub reading_within : {E : Type 0} → Bool → List E → Reading E
reading_within b xs = cond b (reads xs) (refuses 0)
