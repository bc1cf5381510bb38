-- A run's cells: what a read, a write and a test of room say of its list. Its bytes, its words and its one slice.
use Rattle.std.proofs.Common.{◌≡◌, ℕ, zero, suc, ◌-◌, ◌*◌, ◌/◌, ◌%◌, ◌^◌, ◌<◌, ◌≤◌, min, Bool, true, false, cond, leb, ◌⊎◌, List, [], ◌∷◌, length, get_or, take, drop, Ok, Err, sym, refl, ap, ◌∙◌, ⊎_elim, mod-lt, mul_comm, mul-le-mul_left, arith, length-take}
use native.Mathlib.Nat.{mul-div-le, div-add-mod}
use Rattle.std.specs.List.{flat_map, AllByRecursion, list_all}
use Rattle.std.proofs.lemmas.List.{get_or-map, get_or_past, get_or-take}
use Rattle.std.proofs.lemmas.Bool.{cases_lt, le-leb, le-ltb, leb-true, lt-leb}
use Rattle.area.specs.Digits.{number, chunks}
use Rattle.area.specs.Fault.{refuse}
use Rattle.area.specs.Slice.{Slice, of_bytes, pack, words_for}
use Rattle.area.specs.declared.fault.Fault.{Fault}
use Rattle.area.specs.declared.fault.Refusal.TheVariants.{ImageTooLong, OutOfRange}
use Rattle.area.proofs.DigitLemmas.{get_or-chunks, get_or_joined, length-chunks}
use Rattle.area.proofs.SliceLemmas.{length-pack}
use Rattle.column.specs.Column.{element, slice_length, word_in_slice}
use Rattle.column.specs.Element.{Codec, OneToOne}
use Rattle.column.specs.Kind.{CAP}
use Rattle.column.proofs.ColumnLemmas.{element_at_lem, element_past}
use Rattle.column.specs.RunLaws.{length_strings, sizes}

module _ {E : Type 0} (cells : List E) (n : ℕ) (within : n ≤ length cells) where
  pub read_at : (i : ℕ) (x : E) → i < n → x ≡ get_or cells i x → Ok x ≡ element (take n cells) i
  read_at i x h e =
      let l : i < length (take n cells) = simp length-take (omega arith) in
      sym (element_at_lem (take n cells) i x l ∙ ap Ok (get_or-take n cells i x h ∙ sym e))

  pub read_past : (i : ℕ) → n ≤ i → element (take n cells) i ≡ Err (refuse OutOfRange 0)
  read_past i h = element_past (take n cells) i (simp length-take (omega arith))

-- no element at a place is past the end
pub past_from_err : {E : Type 0} (xs : List E) (i : ℕ) (f : Fault) → Err f ≡ element xs i → length xs ≤ i
past_from_err [] i f e = omega arith
past_from_err (x ∷ xs) zero f e = let z : ◌≡◌ {A = ℕ} 0 1 = cc in absurd (omega arith)
past_from_err (x ∷ xs) (suc i) f e = omega (arith, past_from_err xs i f e)

-- byte p of elements of n bytes is byte p % n of element p / n
module _ {E : Type 0} (fits : E → Bool) (C : Codec E) (O : OneToOne fits C) (xs : List E) (h : list_all fits xs ≡ true) (p n : ℕ) (size : n ≡ C.size) where
  pub byte_in : (x : E) → Ok x ≡ element xs (p / n) → get_or (C.bytes x) (p % n) 0 ≡ get_or (flat_map C.bytes xs) p 0
  byte_in x e = ⊎_elim inside past (cases_lt (p / n) (length xs))
    where
      inside : p / n < length xs → get_or (C.bytes x) (p % n) 0 ≡ get_or (flat_map C.bytes xs) p 0
      inside l =
          let same : x ≡ get_or xs (p / n) x = cc (e, element_at_lem xs (p / n) x l) in
          let all : AllByRecursion (λ y. length (C.bytes y) ≡ n) xs = rw size (sizes fits C O xs h) in
          let positive : 0 < n = rw size O.positive in
          ap (λ y. get_or (C.bytes y) (p % n) 0) same
          ∙ sym (get_or_joined C.bytes n xs (p / n) (p % n) 0 x all l (mod-lt p positive))
          ∙ ap (λ q. get_or (flat_map C.bytes xs) q 0) (div-add-mod p n)

      past : length xs ≤ p / n → get_or (C.bytes x) (p % n) 0 ≡ get_or (flat_map C.bytes xs) p 0
      past l = let z : ◌≡◌ {A = ℕ} 0 1 = cc (e, element_past xs (p / n) l) in absurd (omega arith)

  pub byte_past : (f : Fault) → Err f ≡ element xs (p / n) → 0 ≡ get_or (flat_map C.bytes xs) p 0
  byte_past f e =
      let few : n * length xs ≤ n * (p / n) = mul-le-mul_left n (past_from_err xs (p / n) f e) in
      let all : length (flat_map C.bytes xs) ≡ n * length xs = rw size (length_strings fits C O xs h) in
      sym (get_or_past (flat_map C.bytes xs) p 0 (omega (arith, mul-div-le p n)))

-- the one slice of a run
module _ (s : Slice) where
  pub one_length : (k : ℕ) → k ≤ 0 → s.bytes ≤ 8 * CAP → slice_length (s ∷ []) k ≡ Ok s.bytes
  one_length zero p h = rw (le-leb s.bytes (8 * CAP) h)
  one_length (suc k) p h = absurd (omega arith)

  one_too_long : (k : ℕ) → k ≤ 0 → 8 * CAP < s.bytes → slice_length (s ∷ []) k ≡ Err (refuse ImageTooLong 0)
  one_too_long zero p h = rw (lt-leb s.bytes (8 * CAP) h)
  one_too_long (suc k) p h = absurd (omega arith)

  -- a length that is not refused
  one_length_of : (b : Bool) (n m : ℕ) → Ok n ≡ cond b (Ok m) (Err (refuse ImageTooLong 0)) → (n ≡ m) × (b ≡ true)
  one_length_of true n m e = (cc, refl)
  one_length_of false n m e = let z : ◌≡◌ {A = ℕ} 0 1 = cc in absurd (omega arith)

  one_word_of : (k n i : ℕ) → Ok n ≡ slice_length (s ∷ []) k → (n ≡ s.bytes) × (n ≤ 8 * CAP) × (word_in_slice (s ∷ []) k i ≡ element s.words i)
  one_word_of zero n i e =
      let q = one_length_of (leb s.bytes (8 * CAP)) n s.bytes e in
      (q.0, omega (arith, q.0, leb-true s.bytes (8 * CAP) q.1), rw (q.1, word_in_slice))
  one_word_of (suc k) n i e = let z : ◌≡◌ {A = ℕ} 0 1 = cc (le-ltb (suc k) 1 (omega arith)) in absurd (omega arith)

-- a run's bytes: the list is the first m cells
module _ {E : Type 0} (fits : E → Bool) (C : Codec E) (O : OneToOne fits C) (cells : List E) (m : ℕ) (within : m ≤ length cells) (fitting : list_all fits (take m cells) ≡ true) where
  run_length : length (flat_map C.bytes (take m cells)) ≡ m * C.size
  run_length =
      let l : length (take m cells) ≡ m = simp length-take (omega (arith, within)) in
      length_strings fits C O (take m cells) fitting ∙ ap (λ n. C.size * n) l ∙ mul_comm C.size m

  -- the length of its slice, from a product that stops at the largest word
  module _ (k n r : ℕ) (first : k ≤ 0) (size : n ≡ C.size) (product : r ≡ min (m * n) (2 ^ 64 - 1)) where
    pub run_slice : r ≤ 8 * CAP → Ok r ≡ slice_length (of_bytes (flat_map C.bytes (take m cells)) ∷ []) k
    run_slice h =
        let e : r ≡ length (flat_map C.bytes (take m cells)) = omega (arith, run_length, ap (λ q. m * q) size) in
        ap Ok e ∙ sym (one_length (of_bytes (flat_map C.bytes (take m cells))) k first (omega arith))

    pub run_too_long : (f : Fault) → 8 * CAP < r → f ≡ refuse ImageTooLong 0 → Err f ≡ slice_length (of_bytes (flat_map C.bytes (take m cells)) ∷ []) k
    run_too_long f h e =
        ap Err e ∙ sym (one_too_long (of_bytes (flat_map C.bytes (take m cells))) k first (omega (arith, run_length, ap (λ q. m * q) size)))

-- word i of the slice of bytes, of which n count
module _ (bs : List ℕ) (k n i : ℕ) (e : Ok n ≡ slice_length (of_bytes bs ∷ []) k) where
  pub one_word : (w : ℕ) → 8 * i < n → w ≡ number 256 (take 8 (drop (8 * i) bs)) → Ok w ≡ word_in_slice (of_bytes bs ∷ []) k i
  one_word w h v =
      let q = one_word_of (of_bytes bs) k n i e in
      let m : ℕ = words_for (length bs) in
      let l : i < m = omega (arith, q.0) in
      let at : get_or (pack bs) i 0 ≡ w = get_or-map (number 256) (chunks 8 m bs) i [] 0 (rw length-chunks l) ∙ ap (number 256) (get_or-chunks 8 m bs i l) ∙ sym v in
      sym (q.2 ∙ element_at_lem (pack bs) i 0 (omega (arith, length-pack bs)) ∙ ap Ok at)

  pub one_word_past : (f : Fault) → (CAP ≤ i) ⊎ (n ≤ 8 * i) → f ≡ refuse OutOfRange 0 → Err f ≡ word_in_slice (of_bytes bs ∷ []) k i
  one_word_past f h v =
      let q = one_word_of (of_bytes bs) k n i e in
      ap Err v ∙ sym (q.2 ∙ element_past (pack bs) i (omega (arith, q.0, q.1, h, length-pack bs)))
