-- Every refusal with its number and the question that it answers with no.
use Rattle.std.specs.Prelude.{ℕ, List, ◌++◌, codes, decimal}
use Rattle.area.specs.declared.fault.Fault.{Fault}
use Rattle.area.specs.declared.fault.Refusal.{Refusal}
use Rattle.area.specs.declared.fault.Refusal.TheVariants.{ByteLength, NoWord, FirstWord, IndexCut, SliceCount, EndOutside, EndBeforeStart, SliceSize, SliceContent, OutOfRange, BitCount, NotTaken, NotTyped, NoRoom, ImageTooLong, WindowOutside, UnknownRecord}

-- the answer of a refused call
abbrev pub refuse : Refusal → ℕ → Fault
refuse q k = record { refusal = q; place = k }

abbrev pub number_of : Refusal → ℕ
-- is the byte length a multiple of 8, and at most 4,294,967,288?
number_of ByteLength = 1
-- is there a word?
number_of NoWord = 2
-- is word 0 at least 8, and a multiple of 8?
number_of FirstWord = 3
-- is the whole index there?
number_of IndexCut = 4
-- is the slice count the kind's?
number_of SliceCount = 5
-- is the slice's end inside the store?
number_of EndOutside = 6
-- is the slice's end not before its start?
number_of EndBeforeStart = 7
-- has the slice its least words, or a multiple of the element size?
number_of SliceSize = 8
-- are product, tail count, list length and pair lengths in bounds?
number_of SliceContent = 9
-- is the place below the length or the slice count, and the range's end at most the length?
number_of OutOfRange = 10
-- is the bit count at most 64, and no bit set at or above it?
number_of BitCount = 11
-- does the column take the element?
number_of NotTaken = 12
-- is the table Typed?
number_of NotTyped = 13
-- is there room?
number_of NoRoom = 14
-- has the image at most 536,870,911 words?
number_of ImageTooLong = 15
-- does the window lie inside its store?
number_of WindowOutside = 16
-- is the kind known, the record whole, and its bad byte 0 or 1?
number_of UnknownRecord = 17

-- a refusal as text: the word `refused`, the number and the place, with a space between
abbrev pub refusal_text : Fault → List ℕ
refusal_text f = codes "refused " ++ (decimal (number_of f.refusal) ++ (codes " " ++ decimal f.place))
