-- A form of bools taken apart: the form of the words below, and the tail.
use Rattle.std.proofs.Common.{◌≡◌, ℕ, zero, suc, ◌+◌, ◌*◌, ◌/◌, ◌%◌, ◌^◌, ◌-◌, ◌<◌, ◌≤◌, min, Bool, true, false, cond, ◌&&◌, eqb, leb, ltb, List, [], ◌∷◌, ◌++◌, map, length, take, Some, None, Ok, Err, Result, ok_or, sym, refl, ap, ◌∙◌, ap₂, add-one, arith}
use Rattle.std.specs.Coded.{Coded-set, coded_bool, coded_list, le_prop}
use Rattle.std.specs.List.{AllByRecursion, flat_map}
use Rattle.std.proofs.Math.Logic.{∥∥₁_elim}
use Rattle.std.proofs.Props.{props}
use Rattle.std.proofs.lemmas.Nat.{mod-pow-add, mod_below, pow_pos}
use Rattle.std.proofs.lemmas.List.{length_push, take_at, get_or_at}
use Rattle.std.proofs.lemmas.Bool.{and_parts, le-leb, lt-leb, ltb-false, ltb-true}
use Rattle.std.proofs.lemmas.Bool.Decides.{nat_tests}
use Rattle.area.specs.Digits.{digits}
use Rattle.area.specs.Fault.{refuse}
use Rattle.area.specs.Slice.{Slice, of_words, words_for}
use Rattle.area.specs.declared.fault.Fault.{Fault}
use Rattle.area.specs.declared.fault.Refusal.TheVariants.{OutOfRange, SliceContent}
use Rattle.column.specs.Kind.{CAP, Format, L, first_refused, reading_within, least_words, slot, word_of}
use Rattle.column.specs.Column.{element, side_of, slice_length, word_in_slice}
use Rattle.column.specs.declared.kind.Side.TheVariants.{First, Second}
use Rattle.column.specs.KindLemmas.{least_words_lem}
use Rattle.column.proofs.RunLemmas.{one_length}
use Rattle.column.proofs.SliceAt.{slice_length_past, word_in_slice_past}
use Rattle.decode.proofs.DecodeLemmas.{length_span}
use Rattle.decode.specs.Decode.{Inside, least_words_answer, slice_in, span_answer, structure_fault}
use Rattle.decode.specs.declared.span.Span.{Span}
use Rattle.read.specs.Form.{FormAnswer, Stands, There, list_of, size_answer, slices_within}
use Rattle.read.proofs.FormLemmas.{size-passed, there_few}
use Rattle.read.proofs.PlaceLemmas.{Made, Place, bounds_err, bounds_ok, made, place, slices_last, slices_left, words_asked}
use Rattle.read.specs.FormLaws.{accepted, passed}
use Rattle.read.proofs.StandLemmas.{stands}
use Rattle.boolean.specs.Bools.{bools_format, bools_list, held_bits, to_bits}
use Rattle.boolean.specs.BoolsLaws.{first_none, length-held, parts}
use Rattle.boolean.specs.Form.{BoolsKept, bools_slices, slice_tail}
use Rattle.boolean.specs.declared.form.BoolsForm.{BoolsForm}
use Rattle.boolean.specs.declared.tail.Tail.{Tail}

-- the n lowest digits are those of the rest modulo 2 ^ n
digits_cut : (n w : ℕ) → digits 2 n (w % 2 ^ n) ≡ digits 2 n w
digits_cut zero w = refl
digits_cut (suc n) w =
    let e : w % 2 ^ suc n ≡ (w / 2 % 2 ^ n) * 2 + w % 2 = rw add-one at (mod-pow-add w n 1) in
    ap₂ ◌∷◌ (omega arith) (ap (digits 2 n) (omega arith) ∙ digits_cut n (w / 2))

module _ {F : Type 0} (slices : F → List ℕ → List Slice) (kept : F → List ℕ → Type 0) (W : Format ℕ) (t : BoolsForm F) (ws : List ℕ) where
  pub record Below : Type 0 where
    pub values : Stands slices kept W t.values ws
    pub few : t.tail.count ≤ 63
    pub clean : t.tail.word < 2 ^ t.tail.count
    pub short : 64 * length (list_of W (slices t.values ws)) + t.tail.count ≤ L
    pub list : bools_list (list_of W (slices t.values ws)) t.tail ≡ list_of (bools_format W) (bools_slices slices t ws)
    pub giving : (bools_format W).giving (bools_slices slices t ws) ≡ W.giving (slices t.values ws) ++ of_words (slice_in ws t.place).words ∷ []

  pub below : Stands (bools_slices slices) (BoolsKept kept) (bools_format W) t ws → Below
  below s =
      let ss = slices t.values ws in
      let l = slice_in ws t.place in
      let k = s.keeps in
      let p = parts W (ss ++ l ∷ []) _ (accepted s) in
      let n : length ss ≡ W.slots = omega (arith, s.passed.count, length_push ss l) in
      let front = take_at ss (l ∷ []) W.slots n in
      let last = get_or_at ss l [] (record { words = []; bytes = 0 }) W.slots n in
      let b = stands slices kept W t.values ws _ p.ws k.values front p.below in
      let c : word_of (slot (ss ++ l ∷ []) W.slots) 1 ≡ t.tail.count = ap (λ r. word_of r 1) last ∙ sym k.count in
      let w : to_bits t.tail.count t.tail.word ≡ to_bits (word_of (slot (ss ++ l ∷ []) W.slots) 1) (word_of (slot (ss ++ l ∷ []) W.slots) 0) =
      ap (to_bits t.tail.count) k.word
      ∙ ap (map (eqb 1)) (digits_cut t.tail.count (word_of l 0))
      ∙ ap₂ (λ m r. to_bits m (word_of r 0)) (sym c) (sym last) in
      record {
        values = b.0;
        few = omega (arith, p.few, c);
        clean = rw k.word (mod_below (word_of l 0) (2 ^ t.tail.count) (pow_pos t.tail.count));
        short = omega (arith, p.short, c, ap length b.1);
        list = ap₂ (λ vs bs. flat_map (to_bits 64) vs ++ bs) b.1 w ∙ sym p.is;
        giving = ap₂ (λ rs r. W.giving rs ++ of_words r.words ∷ []) front last;
      }

  -- what is known of a view, whose form stands without a proof at hand
  pub record Seen : Type 0 where
    pub values : ∥ Stands slices kept W t.values ws ∥₁
    pub few : t.tail.count ≤ 63
    pub clean : t.tail.word < 2 ^ t.tail.count
    pub short : 64 * length (list_of W (slices t.values ws)) + t.tail.count ≤ L
    pub list : bools_list (list_of W (slices t.values ws)) t.tail ≡ list_of (bools_format W) (bools_slices slices t ws)
    pub giving : (bools_format W).giving (bools_slices slices t ws) ≡ W.giving (slices t.values ws) ++ of_words (slice_in ws t.place).words ∷ []
    pub inside : Inside ws t.place

  pub seen : ∥ Stands (bools_slices slices) (BoolsKept kept) (bools_format W) t ws ∥₁ → Seen
  seen h =
      let ss = slices t.values ws in
      let l = slice_in ws t.place in
      let n : length ss ≡ W.slots = omega (arith, (passed h).count, length_push ss l) in
      record {
        values = ∥∥₁_elim h squash₁ (λ s. ∣ (below s).values ∣₁);
        few = ∥∥₁_elim h le_prop (λ s. (below s).few);
        clean = ∥∥₁_elim h le_prop (λ s. (below s).clean);
        short = ∥∥₁_elim h le_prop (λ s. (below s).short);
        list = ∥∥₁_elim h (Coded-set (coded_list coded_bool) _ _) (λ s. (below s).list);
        giving = ap₂ (λ rs r. W.giving rs ++ of_words r.words ∷ []) (take_at ss (l ∷ []) W.slots n) (get_or_at ss l [] (record { words = []; bytes = 0 }) W.slots n);
        inside = ∥∥₁_elim h (hlevel props) (λ s. s.keeps.inside);
      }

  pub length_list : (b : Below) → length (list_of (bools_format W) (bools_slices slices t ws)) ≡ 64 * length (list_of W (slices t.values ws)) + t.tail.count
  length_list b = sym (ap length b.list) ∙ length-held (list_of W (slices t.values ws)) t.tail.count t.tail.word

-- the tail's slice as it is given, whole
module _ (ws : List ℕ) (s : Span) (i : Inside ws s) where
  pub tail-length : slice_length (of_words (slice_in ws s).words ∷ []) 0 ≡ Ok (8 * words_for s.bytes)
  tail-length = one_length (of_words (slice_in ws s).words) 0 (omega arith) (omega (arith, length_span ws s i, i.short)) ∙ ap (λ n. Ok (8 * n)) (length_span ws s i)

  pub tail-word : (k : ℕ) → word_in_slice (of_words (slice_in ws s).words ∷ []) 0 k ≡ element (slice_in ws s).words k
  tail-word k = ap (λ r. elim r [ Ok n ↦ element (slice_in ws s).words k | Err f ↦ Err f ]) tail-length

side_none : (a b : Bool) (n k : ℕ) (e : Fault) → Err e ≡ cond a (Ok (First k)) (cond b (Ok (Second (k - n))) (Err (refuse OutOfRange 0))) → (a ≡ false) × (b ≡ false) × (e ≡ refuse OutOfRange 0)
side_none true b n k e h = cc
side_none false true n k e h = cc
side_none false false n k e h = (refl, refl, cc)

side_second : (a b : Bool) (n k j : ℕ) → Ok (Second j) ≡ cond a (Ok (First k)) (cond b (Ok (Second (k - n))) (Err (refuse OutOfRange 0))) → (b ≡ true) × (j ≡ k - n)
side_second true b n k j h = cc
side_second false true n k j h = (refl, cc)
side_second false false n k j h = cc

-- the slices of the words and then the tail's, where n of the words' are counted
module _ (xs : List Slice) (s : Slice) (n k : ℕ) (n-is : n ≡ min (length xs) CAP) where
  past : (e : Fault) → Err e ≡ side_of n 1 k → (e ≡ refuse OutOfRange 0) × (min (length (xs ++ s ∷ [])) CAP ≤ k)
  past e h =
      let p = side_none (ltb k n) (ltb k CAP && ltb (k - n) 1) n k e h in
      (p.2, rw (length_push xs s) (beyond (ltb-false k n p.0) p.1))
    where
      beyond : n ≤ k → (ltb k CAP && ltb (k - n) 1) ≡ false → min (length xs + 1) CAP ≤ k
      beyond a b = grind (arith, nat_tests, n-is)

  pub length_none : (e : Fault) → Err e ≡ side_of n 1 k → Err e ≡ slice_length (xs ++ s ∷ []) k
  length_none e h = let p = past e h in ap Err p.0 ∙ sym (slice_length_past (xs ++ s ∷ []) k p.1)

  pub word_none : (i : ℕ) (e : Fault) → Err e ≡ side_of n 1 k → Err e ≡ word_in_slice (xs ++ s ∷ []) k i
  word_none i e h = let p = past e h in ap Err p.0 ∙ sym (word_in_slice_past (xs ++ s ∷ []) k i p.1)

pub tail_first : (n k j : ℕ) → Ok (Second j) ≡ side_of n 1 k → j ≡ 0
tail_first n k j h =
    let p = side_second (ltb k n) (ltb k CAP && ltb (k - n) 1) n k j h in
    omega (arith, p.1, ltb-true (k - n) 1 (and_parts (ltb k CAP) (ltb (k - n) 1) p.0).1)

-- what a stored word and count stand for
stored_cases : (b : Bool) (r : Tail) (f : Fault) → ((t : Tail) → Ok t ≡ ok_or (cond b (Some r) None) f → (b ≡ true) × (t ≡ r)) × ((e : Fault) → Err e ≡ ok_or (cond b (Some r) None) f → (b ≡ false) × (e ≡ f))
stored_cases true r f = (λ t e. (refl, cc), λ e q. (cc, cc))
stored_cases false r f = (λ t e. (cc, cc), λ e q. (refl, cc))

-- the slices of bools, of which the last is the tail's
module _ (ws : List ℕ) (asked : structure_fault None ws ≡ None) (W : Format ℕ) (a : ℕ) (t : There ws a (W.slots + 1)) where
  abbrev pub ss : List Slice
  ss = slices_within ws a (W.slots + 1)

  abbrev pub TailPlace : Span → Type 0
  TailPlace p = Place ws asked a (W.slots + 1) t W.slots p

  front : take W.slots ss ≡ slices_within ws a W.slots
  front = slices_left ws a W.slots 1

  -- its number, as it is counted, and its place
  module _ (j k : ℕ) (j-is : j ≡ min W.slots CAP) (k-is : k ≡ min (a + j) (2 ^ 64 - 1)) where
    number_is : k ≡ a + W.slots
    number_is = omega (arith, there_few ws asked a (W.slots + 1) t)

    pub tail_place : (p : Span) → Ok p ≡ span_answer ws k → TailPlace p
    tail_place p e = place ws asked a (W.slots + 1) t W.slots k (omega arith) number_is p e

    -- question 8, which the slices of the words passed
    pub tail_asked : {u : Unit {0}} → (There ws a W.slots → Ok u ≡ size_answer a (W.sized (slices_within ws a W.slots))) → least_words_answer ws k 2 ≡ size_answer a ((bools_format W).sized ss)
    tail_asked passed =
        words_asked ws a (W.slots + 1) t W.slots k 2 (omega arith) number_is
        ∙ ap (λ o. size_answer a (first_refused o (least_words 2 W.slots (slot ss W.slots)))) (sym (size-passed a _ _ (passed (omega arith) ∙ ap (λ rs. size_answer a (W.sized rs)) (sym front))))

-- the answers to question 9 of bools, from those of the words below
module _ (ws : List ℕ) (asked : structure_fault None ws ≡ None) (whole : AllByRecursion (λ w. w < 2 ^ 64) ws) {F : Type 0} (slices : F → List ℕ → List Slice) (kept : F → List ℕ → Type 0) (W : Format ℕ) (a : ℕ) (t : There ws a (W.slots + 1)) (z : (bools_format W).sized (ss ws asked W a t) ≡ None) where
  abbrev all : List Slice
  all = ss ws asked W a t

  abbrev tail_word : ℕ → ℕ
  tail_word i = word_of (slot all W.slots) i

  abbrev Answer : Result (BoolsForm F) Fault → Type 0
  Answer r = FormAnswer (bools_slices slices) (BoolsKept kept) ws all a ((bools_format W).reading all) r

  passed_both : (W.sized (take W.slots all) ≡ None) × (least_words 2 W.slots (slot all W.slots) ≡ None)
  passed_both = first_none _ _ z

  there_words : There ws a W.slots
  there_words = omega (arith, t)

  -- a form x of the words, and the tail's slice
  module _ (x : F) (h : There ws a W.slots → W.sized (slices_within ws a W.slots) ≡ None → FormAnswer slices kept ws (slices_within ws a W.slots) a (W.reading (slices_within ws a W.slots)) (Ok x)) where
    made_words : Made ws asked whole slices kept W a there_words x
    made_words =
        let none : W.sized (slices_within ws a W.slots) ≡ None = ap W.sized (sym (front ws asked W a t)) ∙ passed_both.0 in
        made ws asked whole slices kept W a there_words none x (h there_words none)

    abbrev size : ℕ
    size = 64 * length (list_of W (slices x ws)) + tail_word 1

    reads_both : (bools_format W).reading all ≡ reading_within (leb (tail_word 1) 63 && leb size L) (held_bits (list_of W (slices x ws)) (tail_word 1) (tail_word 0))
    reads_both = rw (ap W.reading (front ws asked W a t) ∙ made_words.reading, made_words.list)

    refused : (v : Fault) → leb (tail_word 1) 63 && leb size L ≡ false → v ≡ refuse SliceContent a → Answer (Err v)
    refused v q i = rw reads_both (bounds_err (bools_slices slices) (BoolsKept kept) ws all a _ _ v q i)

    module _ (j k : ℕ) (j-is : j ≡ min W.slots CAP) (k-is : k ≡ min (a + j) (2 ^ 64 - 1)) (p : Span) (e : Ok p ≡ span_answer ws k) where
      at : TailPlace ws asked W a t p
      at = tail_place ws asked W a t j k j-is k-is p e

      two : 2 ≤ words_for p.bytes
      two = omega (arith, least_words_lem 2 W.slots (slot all W.slots) passed_both.1, at.size)

      count_there : word_of (slice_in ws p) 1 ≡ tail_word 1
      count_there = ap (λ s. word_of s 1) at.slice

      pub no_tail : (v : Fault) → (Inside ws p → 2 ≤ words_for p.bytes → Err v ≡ ok_or (slice_tail (slice_in ws p)) (refuse SliceContent a)) → Answer (Err v)
      no_tail v q =
          let (b, i) = (stored_cases (leb (word_of (slice_in ws p) 1) 63) _ _).1 v (q at.inside two) in
          refused v (ap (λ m. leb m 63 && leb size L) (sym count_there) ∙ ap (λ c. c && leb size L) b) i

      module _ (r : Tail) (q : Inside ws p → 2 ≤ words_for p.bytes → Ok r ≡ ok_or (slice_tail (slice_in ws p)) (refuse SliceContent a)) where
        is_stored : (leb (word_of (slice_in ws p) 1) 63 ≡ true) × (r ≡ record { word = word_of (slice_in ws p) 0 % 2 ^ word_of (slice_in ws p) 1; count = word_of (slice_in ws p) 1 })
        is_stored = (stored_cases (leb (word_of (slice_in ws p) 1) 63) _ _).0 r (q at.inside two)

        count_is : r.count ≡ word_of (slice_in ws p) 1
        count_is = ap (λ s. s.count) is_stored.1

        few : leb (tail_word 1) 63 ≡ true
        few = ap (λ m. leb m 63) (sym count_there) ∙ is_stored.0

        -- how many elements there are
        module _ (words n : ℕ) (words-is : Stands slices kept W x ws → words ≡ length (list_of W (slices x ws))) (n-is : n ≡ min (64 * words + r.count) (2 ^ 64 - 1)) where
          pub too_long : L < n → (v : Fault) → v ≡ refuse SliceContent a → Answer (Err v)
          too_long l v i = refused v (ap₂ ◌&&◌ few (lt-leb size L (omega (arith, words-is made_words.stands, count_is, count_there)))) i

          pub bools_made : n ≤ L → Answer (Ok (record { values = x; place = p; tail = r }))
          bools_made l =
              rw reads_both
              (bounds_ok (bools_slices slices) (BoolsKept kept) ws all a _ _ _
              (ap₂ ◌&&◌ few (le-leb size L (omega (arith, words-is made_words.stands, count_is, count_there))))
              (record {
                values = made_words.keeps;
                inside = at.inside;
                count = count_is;
                word = ap (λ s. s.word) is_stored.1 ∙ ap (λ k. word_of (slice_in ws p) 0 % 2 ^ k) (sym count_is);
              })
              (ap₂ (λ rs s. rs ++ s ∷ []) made_words.of at.slice ∙ slices_last ws a W.slots t))
