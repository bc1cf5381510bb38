-- An index read back: the questions that are put to words before a kind looks at them, and the slices that they hold.
use Rattle.std.specs.Prelude.{◌≡◌, ℕ, suc, ◌+◌, ◌-◌, ◌*◌, ◌/◌, ◌%◌, ◌<◌, ◌≤◌, Bool, true, cond, ◌&&◌, List, [], ◌∷◌, length, take, drop, Some, None, Ok, Err, Option, Result, ◌==◌, nat_le, nat_lt, slice_index}
use Rattle.area.specs.Fault.{refuse}
use Rattle.area.specs.Slice.{Slice, words_for, round_up, contents}
use Rattle.area.specs.declared.fault.Fault.{Fault}
use Rattle.area.specs.declared.fault.Refusal.{Refusal}
use Rattle.area.specs.declared.fault.Refusal.TheVariants.{ByteLength, NoWord, FirstWord, IndexCut, SliceCount, EndOutside, EndBeforeStart, SliceSize, OutOfRange}
use Rattle.column.specs.Kind.{CAP, slot}
use Rattle.storage.specs.Store.{join_words, length_stands}
use Rattle.decode.specs.declared.span.Span.{Span}

-- the slice of n bytes that begins at word p
abbrev pub slice_at : List ℕ → ℕ → ℕ → Slice
slice_at ws p n = record { words = take (words_for n) (drop p ws); bytes = n }

-- where the index ends, and the bytes at which its slices end
abbrev pub first : List ℕ → ℕ
first ws = slice_index ws 0

abbrev pub slice_ends : List ℕ → List ℕ
slice_ends ws = take (first ws / 8 - 1) (drop 1 ws)

-- the slices that end at these bytes: the first begins at byte p, each other at the last end rounded up
abbrev pub slices_to : List ℕ → ℕ → List ℕ → List Slice
slices_to ws p [] = []
slices_to ws p (e ∷ es) = slice_at ws (p / 8) (e - p) ∷ slices_to ws (round_up e) es

abbrev pub slices_of : List ℕ → List Slice
slices_of ws = slices_to ws (first ws) (slice_ends ws)

-- a question: its refusal where the answer is no, else the questions after it
abbrev pub ask : Bool → Refusal → ℕ → Option Fault → Option Fault
ask b q k next = cond b next (Some (refuse q k))

-- the answer of what failed no question, or its refusal
abbrev pub or_fault : {X : Type 0} → Option Fault → X → Result X Fault
or_fault None x = Ok x
or_fault (Some f) x = Err f

-- questions 6 and 7 of one slice after the other, of which the first has number k and begins at byte p; the store has t bytes
abbrev pub ends_fault : ℕ → ℕ → ℕ → List ℕ → Option Fault
ends_fault t k p [] = None
ends_fault t k p (e ∷ es) = ask (nat_le e t) EndOutside k (ask (nat_le p e) EndBeforeStart k (ends_fault t (suc k) (round_up e) es))

-- a slice count is the one asked for, if one is
abbrev pub count_stands : Option ℕ → ℕ → Bool
count_stands None n = true
count_stands (Some m) n = n == m

-- questions 1 to 4, and then the questions after them
abbrev pub index_fault : List ℕ → Option Fault → Option Fault
index_fault ws next =
    ask (nat_le (8 * length ws) 4294967288) ByteLength 0 (
    ask (nat_le 1 (length ws)) NoWord 0 (
    ask (nat_le 8 (first ws) && first ws % 8 == 0) FirstWord 0 (
    ask (nat_le (first ws / 8) (length ws)) IndexCut 0 next)))

-- The first of the questions 1 to 7 that words fail. Question 5 is put where a slice count is given.
abbrev pub structure_fault : Option ℕ → List ℕ → Option Fault
structure_fault m ws = index_fault ws (ask (count_stands m (first ws / 8 - 1)) SliceCount 0 (ends_fault (8 * length ws) 0 (first ws) (slice_ends ws)))

-- the slice count of an index that passes its questions, or the first that it fails
abbrev pub index_answer : List ℕ → Result ℕ Fault
index_answer ws = or_fault (index_fault ws None) (first ws / 8 - 1)

-- the place of slice k: its first word, and its length in bytes
abbrev pub span_of : List ℕ → ℕ → Span
span_of ws k = record { from = words_for (slice_index ws k); bytes = slice_index ws (suc k) - round_up (slice_index ws k) }

abbrev pub span_answer : List ℕ → ℕ → Result Span Fault
span_answer ws k = cond (nat_lt k (length (slices_of ws))) (Ok (span_of ws k)) (Err (refuse OutOfRange 0))

-- refusal 8 where slice k has fewer than n words, and 10 past the slices
abbrev pub least_words_answer : List ℕ → ℕ → ℕ → Result (Unit {0}) Fault
least_words_answer ws k n = cond (nat_lt k (length (slices_of ws))) (cond (nat_le n (length (slot (slices_of ws) k).words)) (Ok tt) (Err (refuse SliceSize k))) (Err (refuse OutOfRange 0))

-- the slice at a place, and a place that lies inside words that an image can have
abbrev pub slice_in : List ℕ → Span → Slice
slice_in ws s = slice_at ws s.from s.bytes

pub record Inside (ws : List ℕ) (s : Span) : Type 0 where
  pub within : s.from + words_for s.bytes ≤ length ws
  pub short : length ws ≤ CAP

-- The questions of a byte area, which is asked 1 as such before its words are: its slices are parts of it.
abbrev pub bytes_fault : List ℕ → Option Fault
bytes_fault bs = ask (length_stands bs) ByteLength 0 (structure_fault None (join_words bs))

-- the part of a byte area that is slice k
abbrev pub part_of : List ℕ → ℕ → List ℕ
part_of bs k = take (span_of (join_words bs) k).bytes (drop (8 * (span_of (join_words bs) k).from) bs)

-- part k of a byte area that passed its questions; g says which bytes a part is
abbrev pub PartAnswer : {P : Type 0} → (P → List ℕ) → List ℕ → ℕ → Result P Fault → Type 0
PartAnswer g bs k (Ok p) = (k < length (slices_of (join_words bs))) × ((g p ≡ part_of bs k) × (g p ≡ contents (slot (slices_of (join_words bs)) k)))
PartAnswer g bs k (Err e) = (length (slices_of (join_words bs)) ≤ k) × (e ≡ refuse OutOfRange 0)

-- the same with the questions before it
abbrev pub AskedPart : {P : Type 0} → (P → List ℕ) → List ℕ → ℕ → Option Fault → Result P Fault → Type 0
AskedPart g bs k None r = PartAnswer g bs k r
AskedPart g bs k (Some f) r = r ≡ Err f
