-- Bools: full groups of 64 elements as words of the kind below, the first element lowest, and the tail (word, count).
use Rattle.std.specs.Prelude.{ℕ, ◌+◌, ◌*◌, ◌/◌, ◌^◌, Bool, true, false, cond, ◌&&◌, List, [], ◌∷◌, ◌++◌, map, length, take, drop, Ok, Err, Result, ◌==◌, nat_eq, nat_le, nat_lt}
use Rattle.std.specs.List.{flat_map}
use Rattle.area.specs.Digits.{number, digits, chunks}
use Rattle.area.specs.Fault.{refuse}
use Rattle.area.specs.Slice.{Slice, of_words}
use Rattle.area.specs.declared.fault.Fault.{Fault}
use Rattle.area.specs.declared.fault.Refusal.TheVariants.{OutOfRange, BitCount}
use Rattle.boolean.specs.declared.tail.Tail.{Tail}
use Rattle.column.specs.Column.{Areas, push_answer, taken}
use Rattle.column.specs.Kind.{Format, L, slot, word_of, least_words, first_refused, after, reading_within}

abbrev pub bit : Bool → ℕ
bit true = 1
bit false = 0

-- the number whose bits are these, and the n lowest bits of a word; the first is the lowest
abbrev pub from_bits : List Bool → ℕ
from_bits bs = number 2 (map bit bs)

abbrev pub to_bits : ℕ → ℕ → List Bool
to_bits n w = map (nat_eq 1) (digits 2 n w)

-- the words of the full groups, and the elements after them
abbrev pub groups : List Bool → List ℕ
groups xs = map from_bits (chunks 64 (length xs / 64) xs)

abbrev pub rest : List Bool → List Bool
rest xs = drop (64 * (length xs / 64)) xs

-- the elements that words and a tail of n bits hold, and the tail's slice
abbrev pub held_bits : List ℕ → ℕ → ℕ → List Bool
held_bits ws n w = flat_map (to_bits 64) ws ++ to_bits n w

abbrev pub bools_list : List ℕ → Tail → List Bool
bools_list ws t = held_bits ws t.count t.word

abbrev pub tail_slice : ℕ → ℕ → Slice
tail_slice w n = of_words (w ∷ n ∷ [])

-- bools whose words are of the kind W
abbrev pub bools_format : Format ℕ → Format Bool
bools_format W = record {
  slots = W.slots + 1;
  writing = λ xs. W.writing (groups xs) ++ tail_slice (from_bits (rest xs)) (length (rest xs)) ∷ [];
  sized = λ ss. first_refused (W.sized (take W.slots ss)) (least_words 2 W.slots (slot ss W.slots));
  reading = λ ss. after 0 (W.reading (take W.slots ss)) (λ ws.
      let w = word_of (slot ss W.slots) 0 in
      let n = word_of (slot ss W.slots) 1 in
      reading_within (nat_le n 63 && nat_le (64 * length ws + n) L) (held_bits ws n w));
  giving = λ ss. W.giving (take W.slots ss) ++ of_words (slot ss W.slots).words ∷ [];
}

-- an element that completes a word is taken exactly when the column below takes that word
abbrev pub bools_takes : (Areas → List ℕ → ℕ → Bool) → Areas → List Bool → Bool → Bool
bools_takes below a xs x = nat_lt (length xs) L && cond (length (rest xs) == 63) (below a (groups xs) (from_bits (rest xs ++ x ∷ []))) true

-- whether the n lowest bits are all that a word has, so that they can be pushed
abbrev pub given_bits : ℕ → ℕ → Bool
given_bits w n = nat_le n 64 && nat_lt w (2 ^ n)

-- whether all n bits are taken, one after the other; t says what a list takes next
abbrev pub bits_taken : (List Bool → Bool → Bool) → List Bool → ℕ → ℕ → Bool
bits_taken t xs w n = taken t xs (to_bits n w) == n

-- all bits are put at the end, or none
abbrev pub push_bits_answer : (List Bool → Bool → Bool) → List Bool → ℕ → ℕ → Result (Unit {0}) Fault
push_bits_answer t xs w n = cond (given_bits w n) (push_answer (bits_taken t xs w n)) (Err (refuse BitCount 0))

abbrev pub bits_pushed : (List Bool → Bool → Bool) → List Bool → ℕ → ℕ → List Bool
bits_pushed t xs w n = cond (given_bits w n && bits_taken t xs w n) (xs ++ to_bits n w) xs

-- n elements from a place on as a number
abbrev pub range_bits : List Bool → ℕ → ℕ → Result ℕ Fault
range_bits xs i n = cond (nat_le n 64) (cond (nat_le (i + n) (length xs)) (Ok (from_bits (take n (drop i xs)))) (Err (refuse OutOfRange 0))) (Err (refuse BitCount 0))
