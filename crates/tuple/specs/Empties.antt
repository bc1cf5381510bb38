-- Empties: one word, the count of elements that hold nothing.
use Rattle.std.specs.Prelude.{ℕ, min, Bool, List, [], ◌∷◌, length, take, replicate, nat_le, nat_lt}
use Rattle.area.specs.Slice.{of_words}
use Rattle.column.specs.Column.{Areas}
use Rattle.column.specs.Kind.{Format, L, slot, word_of, least_words, reading_within}

-- A list of n elements that hold nothing. A count is a u32, at most L, but a number of the logic has no width.
abbrev pub empties_list : ℕ → List (Unit {0})
empties_list n = replicate (min n L) tt

abbrev pub empties_format : Format (Unit {0})
empties_format = record {
  slots = 1;
  writing = λ xs. of_words (length xs ∷ []) ∷ [];
  sized = λ ss. least_words 1 0 (slot ss 0);
  reading = λ ss. reading_within (nat_le (word_of (slot ss 0) 0) L) (replicate (word_of (slot ss 0) 0) tt);
  giving = λ ss. of_words (take 1 (slot ss 0).words) ∷ [];
}

abbrev pub empties_takes : Areas → List (Unit {0}) → Unit {0} → Bool
empties_takes a xs x = nat_lt (length xs) L
