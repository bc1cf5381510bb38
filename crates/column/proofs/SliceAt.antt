-- What slices one after the other answer at a place: the first as by themselves, the others from their own start.
use Rattle.std.proofs.Common.{◌≡◌, ℕ, ◌+◌, ◌-◌, ◌*◌, ◌<◌, ◌≤◌, min, Bool, true, false, cond, ◌&&◌, ltb, leb, List, ◌++◌, length, Ok, Err, Result, sym, refl, ap, ap₂, arith}
use Rattle.std.proofs.lemmas.List.{length-append, get_or_append_left, get_or-append_right}
use Rattle.std.proofs.lemmas.Bool.{and_parts, le-ltb, ltb-false, ltb-true}
use Rattle.std.proofs.lemmas.Bool.Decides.{nat_tests}
use Rattle.area.specs.Fault.{refuse}
use Rattle.area.specs.Slice.{Slice}
use Rattle.area.specs.declared.fault.Fault.{Fault}
use Rattle.area.specs.declared.fault.Refusal.TheVariants.{OutOfRange, ImageTooLong}
use Rattle.column.specs.Column.{element, side_of, slice_length, word_in_slice}
use Rattle.column.specs.Kind.{CAP, slot}
use Rattle.column.specs.declared.kind.Side.{Side}
use Rattle.column.specs.declared.kind.Side.TheVariants.{First, Second}

-- the answers by the slice at the place, and whether there is one
abbrev length_of : Bool → Slice → Result ℕ Fault
length_of there s = cond there (cond (leb s.bytes (8 * CAP)) (Ok s.bytes) (Err (refuse ImageTooLong 0))) (Err (refuse OutOfRange 0))

abbrev word_in : ℕ → Result ℕ Fault → Slice → Result ℕ Fault
word_in i r s = elim r [ Ok n ↦ element s.words i | Err f ↦ Err f ]

-- past all slices
pub slice_length_past : (ss : List Slice) (k : ℕ) → min (length ss) CAP ≤ k → slice_length ss k ≡ Err (refuse OutOfRange 0)
slice_length_past ss k h = ap (λ there. length_of there (slot ss k)) (le-ltb k (min (length ss) CAP) h)

pub word_in_slice_past : (ss : List Slice) (k i : ℕ) → min (length ss) CAP ≤ k → word_in_slice ss k i ≡ Err (refuse OutOfRange 0)
word_in_slice_past ss k i h = ap (λ r. word_in i r (slot ss k)) (slice_length_past ss k h)

module _ (xs ys : List Slice) (k : ℕ) where
  slot_left : k < length xs → slot (xs ++ ys) k ≡ slot xs k
  slot_left h = get_or_append_left xs ys _ k h

  slot_right : length xs ≤ k → slot (xs ++ ys) k ≡ slot ys (k - length xs)
  slot_right h = get_or-append_right xs ys (length xs) k _ refl h

  there_left : k < length xs → ltb k (min (length (xs ++ ys)) CAP) ≡ ltb k (min (length xs) CAP)
  there_left h = rw length-append (grind (arith, nat_tests))

  there_right : length xs ≤ k → (CAP ≤ k → length xs + length ys ≤ k) → ltb k (min (length (xs ++ ys)) CAP) ≡ ltb (k - length xs) (min (length ys) CAP)
  there_right h past = rw length-append (grind (arith, nat_tests))

  pub slice_length_left : k < length xs → slice_length (xs ++ ys) k ≡ slice_length xs k
  slice_length_left h = ap₂ length_of (there_left h) (slot_left h)

  -- at a place below CAP, or past all slices
  pub slice_length_right : length xs ≤ k → (CAP ≤ k → length xs + length ys ≤ k) → slice_length (xs ++ ys) k ≡ slice_length ys (k - length xs)
  slice_length_right h past = ap₂ length_of (there_right h past) (slot_right h)

  pub word_in_slice_left : (i : ℕ) → k < length xs → word_in_slice (xs ++ ys) k i ≡ word_in_slice xs k i
  word_in_slice_left i h = ap₂ (word_in i) (slice_length_left h) (slot_left h)

  pub word_in_slice_right : (i : ℕ) → length xs ≤ k → (CAP ≤ k → length xs + length ys ≤ k) → word_in_slice (xs ++ ys) k i ≡ word_in_slice ys (k - length xs) i
  word_in_slice_right i h past = ap₂ (word_in i) (slice_length_right h past) (slot_right h)

-- what the side that is found says of a slice's number
side_by : (n k : ℕ) (a b : Bool) (s : Side) → Ok s ≡ cond a (Ok (First k)) (cond b (Ok (Second (k - n))) (Err (refuse OutOfRange 0))) → ((j : ℕ) → s ≡ First j → (a ≡ true) × (j ≡ k)) × ((j : ℕ) → s ≡ Second j → (a ≡ false) × (b ≡ true) × (j ≡ k - n))
side_by n k true b s e = (λ j i. (refl, cc), λ j i. cc)
side_by n k false true s e = (λ j i. cc, λ j i. (refl, refl, cc))
side_by n k false false s e = cc

-- the slice that is found there, where the first are n as they are counted
module _ (xs ys : List Slice) (n m k : ℕ) (n-is : n ≡ min (length xs) CAP) (s : Side) (e : Ok s ≡ side_of n m k) (j : ℕ) where
  in_first : s ≡ First j → (k < length xs) × (j ≡ k)
  in_first i = let p = (side_by n k (ltb k n) (ltb k CAP && ltb (k - n) m) s e).0 j i in (omega (arith, ltb-true k n p.0), p.1)

  in_second : s ≡ Second j → (length xs ≤ k) × (k < CAP) × (j ≡ k - length xs)
  in_second i =
      let p = (side_by n k (ltb k n) (ltb k CAP && ltb (k - n) m) s e).1 j i in
      let u = ltb-false k n p.0 in
      let v = ltb-true k CAP (and_parts (ltb k CAP) (ltb (k - n) m) p.1).0 in
      (omega arith, v, omega (arith, p.2))

  pub length_first : s ≡ First j → slice_length xs j ≡ slice_length (xs ++ ys) k
  length_first i = let p = in_first i in rw p.1 (sym (slice_length_left xs ys k p.0))

  pub length_second : s ≡ Second j → slice_length ys j ≡ slice_length (xs ++ ys) k
  length_second i = let p = in_second i in rw p.2 (sym (slice_length_right xs ys k p.0 (λ q. omega (arith, p.1))))

  pub word_first : (i : ℕ) → s ≡ First j → word_in_slice xs j i ≡ word_in_slice (xs ++ ys) k i
  word_first i h = let p = in_first h in rw p.1 (sym (word_in_slice_left xs ys k i p.0))

  pub word_second : (i : ℕ) → s ≡ Second j → word_in_slice ys j i ≡ word_in_slice (xs ++ ys) k i
  word_second i h = let p = in_second h in rw p.2 (sym (word_in_slice_right xs ys k i p.0 (λ q. omega (arith, p.1))))
