-- A run: one slice, the elements in order.
use Rattle.std.specs.Prelude.{ℕ, ◌/◌, ◌%◌, min, Bool, false, cond, List, [], ◌∷◌, map, length, Some, None, ◌==◌, nat_le, nat_lt}
use Rattle.std.specs.List.{flat_map}
use Rattle.area.specs.Digits.{chunks}
use Rattle.area.specs.Slice.{Slice, of_bytes, contents}
use Rattle.column.specs.Column.{Areas, none, cells, beside}
use Rattle.column.specs.Element.{Codec, unsigned}
use Rattle.column.specs.Kind.{Format, L, slot, reading_within}

-- the elements that a slice's bytes hold
abbrev pub elements : {E : Type 0} → Codec E → Slice → List E
elements C s = map C.value (chunks C.size (s.bytes / C.size) (contents s))

abbrev pub run_format : {E : Type 0} → Codec E → Format E
run_format C = record {
  slots = 1;
  writing = λ xs. of_bytes (flat_map C.bytes xs) ∷ [];
  sized = λ ss. cond ((slot ss 0).bytes % C.size == 0) None (Some 0);
  reading = λ ss. reading_within (nat_le ((slot ss 0).bytes / C.size) L) (elements C (slot ss 0));
  giving = λ ss. of_bytes (contents (slot ss 0)) ∷ [];
}

-- a run of words
abbrev pub word_run : Format ℕ
word_run = run_format (unsigned 8)

-- a run takes an element while it has a free cell
abbrev pub run_takes : {E : Type 0} → Areas → List E → E → Bool
run_takes none xs x = false
run_takes (cells n) xs x = nat_lt (length xs) (min n L)
run_takes (beside a b) xs x = false
