-- The laws of runs, over any element that matches byte strings of one size, and of the numbers of n bytes.
use Rattle.std.specs.Prelude.{◌≡◌, ℕ, ◌*◌, ◌/◌, ◌%◌, ◌^◌, ◌<◌, ◌≤◌, Bool, true, ltb, List, [], ◌∷◌, map, length, take, None, ◌==◌, nat_le, nat_lt, refl}
use Rattle.std.proofs.Common.{ap, ◌∙◌, add-zero, arith, lit<, length-take}
use Rattle.std.proofs.Math.Nat.{mul-mod_right, mul-div_cancel_left, div-add-mod, mul-div-le}
use Rattle.std.proofs.lemmas.List.{length-map}
use Rattle.std.specs.List.{flat_map, AllByRecursion, list_all}
use Rattle.std.proofs.ByRecursion.{All-weaker}
use Rattle.std.proofs.lemmas.Bool.{lt-ltb, ltb-true, le-leb, leb-true, eqb-true}
use Rattle.area.specs.Digits.{number, chunks}
use Rattle.area.specs.Slice.{Slice, WellFormed, ZeroPadded, of_bytes, of_words, contents, words_for, weight}
use Rattle.area.proofs.DigitLemmas.{all_chunks, all_in_chunks, all_joined, chunks_joined_all, digits_number_all, digits_under, length-chunks, length_digits, length_joined, number_digits, number_lt}
use Rattle.area.proofs.SliceLemmas.{contents-of_bytes, contents_under, length-contents, length-pack, of_bytes-formed, of_bytes_padded, of_bytes-spill}
use Rattle.column.specs.Element.{Bytes, Codec, OneToOne, unsigned}
use Rattle.column.specs.Kind.{Accepted, Held, L, Laws, reads, slot}
use Rattle.column.specs.Run.{elements, run_format, word_run}
use Rattle.column.specs.KindLemmas.{all_from_list_all, list_all_from_all, in_bounds, passed, slot-formed}

pub unsigned_one_to_one : (n : ℕ) → 0 < n → OneToOne (λ x. ltb x (256 ^ n)) (unsigned n)
unsigned_one_to_one n p = record {
  positive = p;
  string = λ x h. (length_digits 256 n x, digits_under 256 n x (lit< tt));
  back = λ x h. number_digits 256 n x (lit< tt) (ltb-true x (256 ^ n) h);
  forth = λ bs l h. (digits_number_all 256 bs n h l, lt-ltb (number 256 bs) (256 ^ n) (rw l at (number_lt 256 bs h)));
}

module _ {E : Type 0} (fits : E → Bool) (C : Codec E) (O : OneToOne fits C) where
  -- the byte strings of elements that fit
  pub strings : (xs : List E) → list_all fits xs ≡ true → Bytes (flat_map C.bytes xs)
  strings xs h = all_joined (λ b. b < 256) C.bytes xs
      (All-weaker (λ x. fits x ≡ true) (λ x. Bytes (C.bytes x)) (λ x f. (O.string x f).1) xs (all_from_list_all fits xs h))

  pub sizes : (xs : List E) → list_all fits xs ≡ true → AllByRecursion (λ x. length (C.bytes x) ≡ C.size) xs
  sizes xs h = All-weaker (λ x. fits x ≡ true) (λ x. length (C.bytes x) ≡ C.size) (λ x f. (O.string x f).0) xs (all_from_list_all fits xs h)

  pub length_strings : (xs : List E) → list_all fits xs ≡ true → length (flat_map C.bytes xs) ≡ C.size * length xs
  length_strings xs h = length_joined C.bytes C.size xs (sizes xs h)

  values : (xs : List E) → AllByRecursion (λ x. fits x ≡ true) xs → map C.value (map C.bytes xs) ≡ xs
  values [] h = refl
  values (x ∷ xs) h = rw (O.back x h.0, values xs h.1)

  count : (xs : List E) → list_all fits xs ≡ true → length (flat_map C.bytes xs) / C.size ≡ length xs
  count xs h = rw (length_strings xs h) (mul-div_cancel_left (length xs) O.positive)

  elements-written : (xs : List E) → list_all fits xs ≡ true → elements C (of_bytes (flat_map C.bytes xs)) ≡ xs
  elements-written xs h =
      rw (contents-of_bytes (flat_map C.bytes xs) (strings xs h), count xs h, chunks_joined_all C.bytes C.size xs (sizes xs h))
      (values xs (all_from_list_all fits xs h))

  return : (xs : List E) → Held fits xs → ((run_format C).sized ((run_format C).writing xs) ≡ None) × ((run_format C).reading ((run_format C).writing xs) ≡ reads xs)
  return xs (h, l) = (
    rw (length_strings xs h, mul-mod_right) refl,
    rw (elements-written xs h, count xs h, le-leb (length xs) L l) refl,
  )

  -- what a well-formed slice with no refusal holds
  fit_chunks : (cs : List (List ℕ)) → AllByRecursion (λ c. length c ≡ C.size) cs → AllByRecursion Bytes cs → AllByRecursion (λ x. fits x ≡ true) (map C.value cs)
  fit_chunks [] k h = tt
  fit_chunks (c ∷ cs) k h = ((O.forth c k.0 h.0).1, fit_chunks cs k.1 h.1)

  elements_fit : (s : Slice) → WellFormed s → list_all fits (elements C s) ≡ true
  elements_fit s w =
      let n : ℕ = s.bytes / C.size in
      let l : C.size * n ≤ length (contents s) = rw (length-contents s w) (mul-div-le s.bytes C.size) in
      list_all_from_all fits (elements C s)
      (fit_chunks (chunks C.size n (contents s)) (all_chunks C.size n (contents s) l) (all_in_chunks (λ b. b < 256) C.size n (contents s) (contents_under s)))

  pub length-elements : (s : Slice) → length (elements C s) ≡ s.bytes / C.size
  length-elements s = let n : ℕ = s.bytes / C.size in length-map (chunks C.size n (contents s)) C.value ∙ length-chunks C.size n (contents s)

  -- the one slice of a run: it holds the elements, and each of its bytes belongs to one
  record Held-by (ss : List Slice) (xs : List E) : Type 0 where
    fit : list_all fits xs ≡ true
    few : length xs ≤ L
    whole : weight ss ≡ words_for (C.size * length xs)

  held_by : (ss : List Slice) (xs : List E) → Accepted (run_format C) ss xs → Held-by ss xs
  held_by [] xs a = absurd (omega arith)
  held_by (s ∷ []) xs a =
      let r = in_bounds (nat_le (s.bytes / C.size) L) (elements C s) xs a.reading in
      let few : s.bytes / C.size ≤ L = leb-true (s.bytes / C.size) L r.0 in
      let exact : s.bytes % C.size ≡ 0 = eqb-true (s.bytes % C.size) 0 (passed (s.bytes % C.size == 0) 0 a.fitting) in
      rw (← r.1) (record {
        fit = elements_fit s a.formed.0;
        few = rw (length-elements s) few;
        whole = rw (length-elements s) (omega (arith, div-add-mod s.bytes C.size));
      })
  held_by (s ∷ t ∷ ss) xs a = absurd (omega arith)

  least : (ss : List Slice) (xs : List E) → Accepted (run_format C) ss xs → weight ((run_format C).writing xs) ≤ weight ss
  least ss xs a =
      let h = held_by ss xs a in
      omega (arith, length-pack (flat_map C.bytes xs), length_strings xs h.fit)

  given : (ss : List Slice) (xs : List E) → Accepted (run_format C) ss xs → Accepted (run_format C) ((run_format C).giving ss) xs × AllByRecursion ZeroPadded ((run_format C).giving ss)
  given ss xs a =
      let s : Slice = slot ss 0 in
      let u = contents_under s in
      let l = length-contents s (slot-formed ss 0 (omega (arith, a.count)) a.formed) in (
        record {
          count = refl;
          formed = (of_bytes-formed (contents s) u, tt);
          fitting = rw l a.fitting;
          reading = rw (contents-of_bytes (contents s) u, l) a.reading;
        },
        (of_bytes_padded (contents s) u, tt),
      )

  pub run_formed : (xs : List E) → list_all fits xs ≡ true → AllByRecursion WellFormed ((run_format C).writing xs)
  run_formed xs h = (of_bytes-formed (flat_map C.bytes xs) (strings xs h), tt)

  pub run_laws : Laws fits (run_format C)
  run_laws = record {
    shape = λ xs h. (refl, run_formed xs h.0, (of_bytes_padded (flat_map C.bytes xs) (strings xs h.0), tt));
    return = return;
    sound = λ ss xs a. let h = held_by ss xs a in (h.fit, h.few);
    least = least;
    given = given;
  }

-- what the cells of a run hold is a list that its kind writes
pub run_held : {E : Type 0} (fits : E → Bool) (n : ℕ) (cells : List E) → n ≤ L → list_all fits (take n cells) ≡ true → Held fits (take n cells)
run_held fits n cells short fitting = (fitting, simp length-take (omega arith))

-- a run of words is its words
pub word-run-writing : (xs : List ℕ) → list_all (λ x. ltb x (2 ^ 64)) xs ≡ true → word_run.writing xs ≡ of_words xs ∷ []
word-run-writing xs h = ap (λ s. s ∷ []) (of_bytes-spill xs (All-weaker (λ x. nat_lt x (2 ^ 64) ≡ true) (λ x. x < 2 ^ 64) (λ x. ltb-true x (2 ^ 64)) xs (all_from_list_all (λ x. ltb x (2 ^ 64)) xs h)))

pub word-run-weight : (xs : List ℕ) → list_all (λ x. ltb x (2 ^ 64)) xs ≡ true → weight (word_run.writing xs) ≡ length xs
word-run-weight xs h = ap weight (word-run-writing xs h) ∙ add-zero (length xs)
