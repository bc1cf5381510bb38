-- What a table gives a sink, and which slices it would be encoded as.
use Rattle.std.specs.Prelude.{◌≡◌, ℕ, Bool, true, false, cond, ◌&&◌, leb, List, ◌++◌, map, length, take, drop, Some, None, Ok, Err, Option, Result, ◌==◌, nat_le}
use Rattle.area.specs.Fault.{refuse}
use Rattle.area.specs.declared.fault.Fault.{Fault}
use Rattle.area.specs.declared.fault.Refusal.TheVariants.{ByteLength, ImageTooLong, NoRoom, WindowOutside}
use Rattle.area.specs.Digits.{digits}
use Rattle.area.specs.Slice.{Slice}
use Rattle.column.specs.Column.{Areas}
use Rattle.column.specs.Kind.{CAP, Format}
use Rattle.decode.specs.Decode.{slices_of}
use Rattle.indexed.specs.Image.{encode_answer, encoded, image}
use Rattle.indexed.specs.Pieces.{Given, Written, bytes_given, given, pieces}
use Rattle.storage.specs.Store.{join_words, length_stands}
use Rattle.storage.specs.declared.write.Full.{Full}
use Rattle.storage.specs.declared.write.WriteBytes.{Ghosts as SinkMembers}
use Rattle.indexed.specs.declared.write.WriteFault.{WriteFault}
use Rattle.indexed.specs.declared.write.WriteFault.TheVariants.{TooLong, Full as NoRoomAt}
use Rattle.stash.specs.History.{Table, after, align, answer, bytes, on_aligned, on_typed, store_aligned, store_bytes, typed}

-- the slices of a Typed table's list, or those that the read form of a stored one gives
abbrev pub slices_of_table : {E : Type 0} → Format E → Table E → List Slice
slices_of_table F (typed a xs) = F.writing xs
slices_of_table F (bytes ws) = F.giving (slices_of ws)
slices_of_table F (align ws) = F.giving (slices_of ws)

-- The first step of `make_aligned`: the length of the image that is encoded into the start of an area, and the area after
-- it. An Align table has nothing to do.
abbrev pub some_of : {X : Type 0} → Result X Fault → Result (Option X) Fault
some_of (Ok x) = Ok (Some x)
some_of (Err f) = Err f

abbrev pub align_answer : {E : Type 0} → Format E → Table E → List ℕ → Result (Option ℕ) Fault
align_answer F T area = on_aligned T (Ok None) (some_of (encode_answer (slices_of_table F T) area 0))

abbrev pub aligned_area : {E : Type 0} → Format E → Table E → List ℕ → List ℕ
aligned_area F T area = on_aligned T area (encoded (slices_of_table F T) area 0)

-- The second step, given the length n: the table takes the first n words of the area as its store. 16 where n passes the
-- area; an Align table stays as it is.
module _ {E : Type 0} (F : Format E) (t : Areas → List E → E → Bool) where
  abbrev pub start_answer : Table E → List ℕ → ℕ → Result (Unit {0}) Fault
  start_answer T area n = on_aligned T (Ok tt) (cond (nat_le n (length area)) (answer F t T (store_aligned (take n area))) (Err (refuse WindowOutside 0)))

  abbrev pub after_start : Table E → List ℕ → ℕ → Table E
  after_start T area n = on_aligned T T (cond (nat_le n (length area)) (after F t T (store_aligned (take n area))) T)

  -- The same of a reload, in bytes: 16, then 1 of these bytes.
  abbrev pub reload_answer : Table E → List ℕ → ℕ → Result (Unit {0}) Fault
  reload_answer T area n = cond (nat_le n (length area)) (cond (length_stands (take n area)) (answer F t T (store_bytes (join_words (take n area)))) (Err (refuse ByteLength 0))) (Err (refuse WindowOutside 0))

  abbrev pub after_reload : Table E → List ℕ → ℕ → Table E
  after_reload T area n = cond (nat_le n (length area) && length_stands (take n area)) (after F t T (store_bytes (join_words (take n area)))) T

-- the pieces of a table
abbrev pub table_pieces : {E : Type 0} → Format E → Table E → List (List ℕ)
table_pieces F (typed a xs) = pieces (F.writing xs)
table_pieces F (bytes ws) = map (digits 256 8) ws
table_pieces F (align ws) = map (digits 256 8) ws

-- whether a table can be written: a Typed one has an image only up to its longest
abbrev pub has_image : {E : Type 0} → Format E → Table E → Bool
has_image F T = on_typed T true (λ a xs. leb (length (image (F.writing xs))) CAP)

-- The first step of a reload: as many pieces as fit stand at the start of the area, and nothing else of it changes. Where
-- all fit their length is answered, else 14 with the first that does not; 15 where there is no image.
pub record Reloads {E : Type 0} (F : Format E) (T : Table E) (before after : List ℕ) (r : Result ℕ (WriteFault Full)) : Type 0 where
  pub short : has_image F T ≡ true → (r ≡ cond (given (length before) (table_pieces F T) == length (table_pieces F T)) (Ok (length (bytes_given (length before) (table_pieces F T)))) (Err (NoRoomAt (refuse NoRoom (given (length before) (table_pieces F T))) (record {})))) × (after ≡ bytes_given (length before) (table_pieces F T) ++ drop (length (bytes_given (length before) (table_pieces F T))) before)
  pub long : has_image F T ≡ false → (r ≡ Err (TooLong (refuse ImageTooLong 0))) × (after ≡ before)

-- over a sink by its members: a Typed table gives its image, any other the words of its store one by one
module _ {W X E : Type 0} (sink : SinkMembers W X) (F : Format E) where
  abbrev pub TableWritten : Table E → W → W → Result (Unit {0}) (WriteFault X) → Type 0
  TableWritten (typed a xs) s t r = Written sink (F.writing xs) s t r
  TableWritten (bytes ws) s t r = Given sink (map (digits 256 8) ws) s t r
  TableWritten (align ws) s t r = Given sink (map (digits 256 8) ws) s t r
