-- Images: an index of byte offsets, and then the words of each slice.
use Rattle.std.specs.Prelude.{ℕ, ◌+◌, ◌*◌, cond, ◌&&◌, List, [], ◌∷◌, ◌++◌, length, Ok, Err, Result, nat_le}
use Rattle.std.proofs.Math.Seq.{paste}
use Rattle.std.specs.List.{flat_map}
use Rattle.area.specs.Fault.{refuse}
use Rattle.area.specs.Slice.{Slice}
pub use Rattle.area.specs.Slice.{round_up}
use Rattle.area.specs.declared.fault.Fault.{Fault}
use Rattle.area.specs.declared.fault.Refusal.TheVariants.{NoRoom, ImageTooLong}
use Rattle.column.specs.Kind.{CAP, Format}

-- the byte at which each slice ends, if the first starts at byte p
abbrev pub ends : ℕ → List Slice → List ℕ
ends p [] = []
ends p (s ∷ ss) = (p + s.bytes) ∷ ends (round_up (p + s.bytes)) ss

-- where the index itself ends, and then each slice
abbrev pub index : List Slice → List ℕ
index ss = (8 * (1 + length ss)) ∷ ends (8 * (1 + length ss)) ss

abbrev pub words_of : List Slice → List ℕ
words_of = flat_map (λ s. s.words)

abbrev pub image : List Slice → List ℕ
image ss = index ss ++ words_of ss

-- the image of a list of a kind
abbrev pub image_of : {E : Type 0} → Format E → List E → List ℕ
image_of F xs = image (F.writing xs)

-- the length of an image, in words and in bytes; refusal 15 past the longest
abbrev pub word_length_answer : List Slice → Result ℕ Fault
word_length_answer ss = cond (nat_le (length (image ss)) CAP) (Ok (length (image ss))) (Err (refuse ImageTooLong 0))

abbrev pub byte_length_answer : List Slice → Result ℕ Fault
byte_length_answer ss = cond (nat_le (length (image ss)) CAP) (Ok (8 * length (image ss))) (Err (refuse ImageTooLong 0))

-- the image written over an area from a place on: its length, or refusal 15, or 14 where it does not fit
abbrev pub encode_answer : List Slice → List ℕ → ℕ → Result ℕ Fault
encode_answer ss area place = cond (nat_le (length (image ss)) CAP) (cond (nat_le (place + length (image ss)) (length area)) (Ok (length (image ss))) (Err (refuse NoRoom 0))) (Err (refuse ImageTooLong 0))

abbrev pub encoded : List Slice → List ℕ → ℕ → List ℕ
encoded ss area place = cond (nat_le (length (image ss)) CAP && nat_le (place + length (image ss)) (length area)) (paste area place (image ss) (length (image ss))) area
