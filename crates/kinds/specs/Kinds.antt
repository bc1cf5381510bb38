-- The kinds of the card by their numbers, and what admission answers for them.
use Rattle.std.specs.Prelude.{ℕ, Bool, cond, List, length, Ok, Err, Result, ◌==◌}
use Rattle.area.specs.Fault.{number_of, refuse}
use Rattle.area.specs.declared.fault.Fault.{Fault}
use Rattle.area.specs.declared.fault.Refusal.TheVariants.{ByteLength, UnknownRecord}
use Rattle.boolean.specs.Bools.{bools_format}
use Rattle.storage.specs.Store.{join_words, length_stands}
use Rattle.column.specs.Kind.{Format}
use Rattle.column.specs.Run.{word_run}
use Rattle.offsets.specs.Strides.{strides_format}
use Rattle.read.specs.Admission.{admission}
use Rattle.tuple.specs.Empties.{empties_format}
use Rattle.card.specs.Block.{block_format}
use Rattle.kinds.specs.declared.kinds.CardKind.{CardKind}
use Rattle.kinds.specs.declared.kinds.CardKind.TheVariants.{BlockTable, EraseMap, SpareCount}

-- bools over strides
abbrev pub erase_format : Format Bool
erase_format = bools_format (strides_format word_run)

-- the kind of a number
abbrev pub kind_numbered : ℕ → Result CardKind Fault
kind_numbered n = cond (n == 1) (Ok BlockTable) (cond (n == 2) (Ok EraseMap) (cond (n == 3) (Ok SpareCount) (Err (refuse UnknownRecord 0))))

-- the length of an admitted list
abbrev pub length_answer : {E : Type 0} → Result (List E) Fault → Result ℕ Fault
length_answer (Ok xs) = Ok (length xs)
length_answer (Err f) = Err f

-- admission for a kind of the card: of words; of bytes, whose length is asked first; and of the kind of a number
abbrev pub card_admission : CardKind → List ℕ → Result ℕ Fault
card_admission BlockTable ws = length_answer (admission block_format ws)
card_admission EraseMap ws = length_answer (admission erase_format ws)
card_admission SpareCount ws = length_answer (admission empties_format ws)

abbrev pub bytes_admission : CardKind → List ℕ → Result ℕ Fault
bytes_admission k bs = cond (length_stands bs) (card_admission k (join_words bs)) (Err (refuse ByteLength 0))

abbrev pub numbered_admission : ℕ → List ℕ → Result ℕ Fault
numbered_admission n bs = elim (kind_numbered n) [ Ok k ↦ bytes_admission k bs | Err f ↦ Err f ]

-- 0 for what is admitted, else the refusal's number
abbrev pub check_answer : ℕ → List ℕ → ℕ
check_answer n bs = elim (numbered_admission n bs) [ Ok k ↦ 0 | Err f ↦ number_of f.refusal ]
