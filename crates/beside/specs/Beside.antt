-- The columns that are compared by their numbers, and what is answered for an image of one.
use Rattle.std.specs.Prelude.{ℕ, ◌*◌, Bool, cond, List, Some, None, Ok, Err, Result, ◌==◌}
use Rattle.area.specs.Fault.{refuse}
use Rattle.area.specs.declared.fault.Fault.{Fault}
use Rattle.area.specs.declared.fault.Refusal.TheVariants.{UnknownRecord}
use Rattle.boolean.specs.Bools.{bit, bools_format, range_bits}
use Rattle.boot.specs.Boot.{list_admitted}
use Rattle.column.specs.Column.{element}
use Rattle.column.specs.Element.{unsigned}
use Rattle.column.specs.Kind.{Format}
use Rattle.column.specs.Run.{run_format, word_run}
use Rattle.decode.specs.Decode.{bytes_fault, span_answer}
use Rattle.kinds.specs.Kinds.{erase_format, length_answer}
use Rattle.offsets.specs.Strides.{strides_format}
use Rattle.storage.specs.Store.{join_words}
use Rattle.tuple.specs.Empties.{empties_format}
use Rattle.beside.specs.Answer.{asked_of, told}
use Rattle.beside.specs.declared.columns.Compared.{Compared}
use Rattle.beside.specs.declared.columns.Compared.TheVariants.{WordRun, ByteRun, Strides, WordMarks, StrideMarks, Empties}

-- the column of a number
abbrev pub column_numbered : ℕ → Result Compared Fault
column_numbered n =
    cond (n == 1) (Ok WordRun) (
    cond (n == 2) (Ok ByteRun) (
    cond (n == 3) (Ok Strides) (
    cond (n == 4) (Ok WordMarks) (
    cond (n == 5) (Ok StrideMarks) (
    cond (n == 6) (Ok Empties) (Err (refuse UnknownRecord 0)))))))

-- an answer for the column of a number, which is asked for first
abbrev pub for_numbered : {X : Type 0} → ℕ → (Compared → Result X Fault) → Result X Fault
for_numbered n g = elim (column_numbered n) [ Ok c ↦ g c | Err f ↦ Err f ]

-- the formats that no other crate has a name for
abbrev pub byte_run : Format ℕ
byte_run = run_format (unsigned 1)

abbrev pub marks_format : Format Bool
marks_format = bools_format word_run

-- the length of the list that an image is admitted with, for a column and for the column of a number
abbrev pub column_length : Compared → List ℕ → Result ℕ Fault
column_length WordRun bs = length_answer (list_admitted word_run bs)
column_length ByteRun bs = length_answer (list_admitted byte_run bs)
column_length Strides bs = length_answer (list_admitted (strides_format word_run) bs)
column_length WordMarks bs = length_answer (list_admitted marks_format bs)
column_length StrideMarks bs = length_answer (list_admitted erase_format bs)
column_length Empties bs = length_answer (list_admitted empties_format bs)

abbrev pub numbered_length : ℕ → List ℕ → Result ℕ Fault
numbered_length n bs = for_numbered n (λ c. column_length c bs)

-- its element at a place as a number: a mark as 0 or 1, an empty element as 0
abbrev pub listed : {E : Type 0} → Format E → List ℕ → ℕ → Result E Fault
listed F bs i = asked_of (list_admitted F bs) (λ xs. element xs i)

abbrev pub column_element : Compared → List ℕ → ℕ → Result ℕ Fault
column_element WordRun bs i = listed word_run bs i
column_element ByteRun bs i = listed byte_run bs i
column_element Strides bs i = listed (strides_format word_run) bs i
column_element WordMarks bs i = told bit (listed marks_format bs i)
column_element StrideMarks bs i = told bit (listed erase_format bs i)
column_element Empties bs i = told (λ x. 0) (listed empties_format bs i)

abbrev pub numbered_element : ℕ → List ℕ → ℕ → Result ℕ Fault
numbered_element n bs i = for_numbered n (λ c. column_element c bs i)

-- m marks from a place on as a number; 17 of a column of no marks
abbrev pub column_bits : Compared → List ℕ → ℕ → ℕ → Result ℕ Fault
column_bits WordRun bs i m = Err (refuse UnknownRecord 0)
column_bits ByteRun bs i m = Err (refuse UnknownRecord 0)
column_bits Strides bs i m = Err (refuse UnknownRecord 0)
column_bits WordMarks bs i m = asked_of (list_admitted marks_format bs) (λ xs. range_bits xs i m)
column_bits StrideMarks bs i m = asked_of (list_admitted erase_format bs) (λ xs. range_bits xs i m)
column_bits Empties bs i m = Err (refuse UnknownRecord 0)

abbrev pub numbered_bits : ℕ → List ℕ → ℕ → ℕ → Result ℕ Fault
numbered_bits n bs i m = for_numbered n (λ c. column_bits c bs i m)

-- where slice k stands in bytes, and how many bytes it has
abbrev pub slice_place : List ℕ → ℕ → Result (ℕ × ℕ) Fault
slice_place bs k = elim (bytes_fault bs) [ None ↦ told (λ s. (8 * s.from, s.bytes)) (span_answer (join_words bs) k) | Some f ↦ Err f ]
