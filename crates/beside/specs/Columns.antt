-- What each column is given, and what is answered for it, with c cells for words and b for bytes.
use Rattle.std.specs.Prelude.{◌≡◌, ℕ, ◌-◌, ◌%◌, ◌^◌, Bool, true, List, Ok, Err, Result, ◌==◌, nat_lt}
use Rattle.area.specs.declared.fault.Fault.{Fault}
use Rattle.boolean.specs.Bools.{bools_takes}
use Rattle.boot.specs.Boot.{Boots, boot_bytes, boot_number}
use Rattle.boot.specs.declared.convert.Done.{Done}
use Rattle.column.specs.Column.{cells, none}
use Rattle.column.specs.Run.{run_takes, word_run}
use Rattle.kinds.specs.Kinds.{erase_format}
use Rattle.offsets.specs.Strides.{strides_format, strides_takes}
use Rattle.stash.specs.declared.convert.ConvertFault.{ConvertFault}
use Rattle.stash.specs.declared.convert.ConvertFault.TheVariants.{Refused}
use Rattle.storage.specs.declared.write.Full.{Full}
use Rattle.tuple.specs.Empties.{empties_format, empties_takes}
use Rattle.beside.specs.Answer.{answer_number, answer_value}
use Rattle.beside.specs.Beside.{byte_run, column_numbered, for_numbered, marks_format}
use Rattle.beside.specs.Fill.{Writes, carried_answer, encoded_answer, encoded_area, pushed_list}
use Rattle.beside.specs.declared.columns.Compared.{Compared}
use Rattle.beside.specs.declared.columns.Compared.TheVariants.{WordRun, ByteRun, Strides, WordMarks, StrideMarks, Empties}

-- the lists that columns have after pushes of numbers: words; bytes, up to 255; marks, 0 or 1; empty elements, 0
abbrev pub words_pushed : (List ℕ → ℕ → Bool) → List ℕ → Result (List ℕ) Fault
words_pushed t ns = pushed_list (2 ^ 64 - 1) (λ n. n) t ns

abbrev pub bytes_pushed : (List ℕ → ℕ → Bool) → List ℕ → Result (List ℕ) Fault
bytes_pushed t ns = pushed_list 255 (λ n. n % 256) t ns

abbrev pub marks_pushed : (List Bool → Bool → Bool) → List ℕ → Result (List Bool) Fault
marks_pushed t ns = pushed_list 1 (λ n. n == 1) t ns

abbrev pub empties_pushed : List ℕ → Result (List (Unit {0})) Fault
empties_pushed ns = pushed_list 0 (λ n. tt) (empties_takes none) ns

-- what is answered where the image of a column is encoded over the start of an area, and the area after it
abbrev pub column_encoded : Compared → List ℕ → ℕ → ℕ → List ℕ → Result ℕ Fault
column_encoded WordRun ns c b was = encoded_answer word_run (words_pushed (run_takes (cells c)) ns) was
column_encoded ByteRun ns c b was = encoded_answer byte_run (bytes_pushed (run_takes (cells b)) ns) was
column_encoded Strides ns c b was = encoded_answer (strides_format word_run) (words_pushed (strides_takes (cells c)) ns) was
column_encoded WordMarks ns c b was = encoded_answer marks_format (marks_pushed (bools_takes run_takes (cells c)) ns) was
column_encoded StrideMarks ns c b was = encoded_answer erase_format (marks_pushed (bools_takes strides_takes (cells c)) ns) was
column_encoded Empties ns c b was = encoded_answer empties_format (empties_pushed ns) was

abbrev pub column_area : Compared → List ℕ → ℕ → ℕ → List ℕ → List ℕ
column_area WordRun ns c b was = encoded_area word_run (words_pushed (run_takes (cells c)) ns) was
column_area ByteRun ns c b was = encoded_area byte_run (bytes_pushed (run_takes (cells b)) ns) was
column_area Strides ns c b was = encoded_area (strides_format word_run) (words_pushed (strides_takes (cells c)) ns) was
column_area WordMarks ns c b was = encoded_area marks_format (marks_pushed (bools_takes run_takes (cells c)) ns) was
column_area StrideMarks ns c b was = encoded_area erase_format (marks_pushed (bools_takes strides_takes (cells c)) ns) was
column_area Empties ns c b was = encoded_area empties_format (empties_pushed ns) was

-- the same for the column of a number: 17 where it has none
abbrev pub numbered_encoded : ℕ → List ℕ → ℕ → ℕ → List ℕ → Result ℕ Fault
numbered_encoded n ns c b was = for_numbered n (λ k. column_encoded k ns c b was)

abbrev pub numbered_area : ℕ → List ℕ → ℕ → ℕ → List ℕ → List ℕ
numbered_area n ns c b was = elim (column_numbered n) [ Ok k ↦ column_area k ns c b was | Err f ↦ was ]

-- The same where the image is written to a byte area piece by piece: what is answered, and how the area changes.
abbrev pub ColumnWrites : Compared → List ℕ → ℕ → ℕ → List ℕ → List ℕ → Result ℕ (ConvertFault Full) → Type 0
ColumnWrites WordRun ns c b was area r = Writes word_run (words_pushed (run_takes (cells c)) ns) was area r
ColumnWrites ByteRun ns c b was area r = Writes byte_run (bytes_pushed (run_takes (cells b)) ns) was area r
ColumnWrites Strides ns c b was area r = Writes (strides_format word_run) (words_pushed (strides_takes (cells c)) ns) was area r
ColumnWrites WordMarks ns c b was area r = Writes marks_format (marks_pushed (bools_takes run_takes (cells c)) ns) was area r
ColumnWrites StrideMarks ns c b was area r = Writes erase_format (marks_pushed (bools_takes strides_takes (cells c)) ns) was area r
ColumnWrites Empties ns c b was area r = Writes empties_format (empties_pushed ns) was area r

abbrev pub NumberedWrites : ℕ → List ℕ → ℕ → ℕ → List ℕ → List ℕ → Result ℕ (ConvertFault Full) → Type 0
NumberedWrites n ns c b was area r = elim (column_numbered n) [ Ok k ↦ ColumnWrites k ns c b was area r | Err f ↦ (r ≡ Err (Refused f)) × (area ≡ was) ]

-- as C is answered it: m and l are the image's length in bytes before and after
abbrev pub AnswersWrite : ℕ → List ℕ → ℕ → ℕ → List ℕ → List ℕ → ℕ → ℕ → ℕ → Type 0
AnswersWrite n ns c b was area m l code = (r : Result ℕ (ConvertFault Full)) × NumberedWrites n ns c b was area r × (code ≡ answer_number (carried_answer r)) × (l ≡ answer_value (carried_answer r) m)

-- The same where the list is that of an image that is admitted.
abbrev pub ColumnConverts : Compared → List ℕ → ℕ → ℕ → List ℕ → List ℕ → Result Done (ConvertFault Full) → Type 0
ColumnConverts WordRun bs c b was area r = Boots (λ x. nat_lt x (2 ^ 64)) word_run (run_takes (cells c)) bs was area r
ColumnConverts ByteRun bs c b was area r = Boots (λ x. nat_lt x (2 ^ 8)) byte_run (run_takes (cells b)) bs was area r
ColumnConverts Strides bs c b was area r = Boots (λ x. nat_lt x (2 ^ 64)) (strides_format word_run) (strides_takes (cells c)) bs was area r
ColumnConverts WordMarks bs c b was area r = Boots (λ x. true) marks_format (bools_takes run_takes (cells c)) bs was area r
ColumnConverts StrideMarks bs c b was area r = Boots (λ x. true) erase_format (bools_takes strides_takes (cells c)) bs was area r
ColumnConverts Empties bs c b was area r = Boots (λ x. true) empties_format (empties_takes none) bs was area r

abbrev pub NumberedConverts : ℕ → List ℕ → ℕ → ℕ → List ℕ → List ℕ → Result Done (ConvertFault Full) → Type 0
NumberedConverts n bs c b was area r = elim (column_numbered n) [ Ok k ↦ ColumnConverts k bs c b was area r | Err f ↦ (r ≡ Err (Refused f)) × (area ≡ was) ]

abbrev pub AnswersConvert : ℕ → List ℕ → ℕ → ℕ → List ℕ → List ℕ → ℕ → ℕ → ℕ → Type 0
AnswersConvert n bs c b was area m l code = (r : Result Done (ConvertFault Full)) × NumberedConverts n bs c b was area r × (code ≡ boot_number r) × (l ≡ boot_bytes m r)
