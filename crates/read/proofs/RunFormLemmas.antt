-- The read form of a run: words and bytes of a store at a place, and the one slice that the form keeps the place of.
use Rattle.std.proofs.Common.{◌≡◌, ℕ, suc, ◌+◌, ◌-◌, ◌*◌, ◌/◌, ◌%◌, ◌^◌, ◌<◌, ◌≤◌, Bool, leb, List, [], ◌∷◌, length, get_or, take, drop, Some, Ok, Err, sym, ap, ◌∙◌, subst, inr, mul-le-mul_left, mul-suc, arith, lit<, take_all, drop-cons, take-take, drop-drop}
use native.Mathlib.Nat.{mul-div-le}
use lib.Seq.{take-append-le}
use Rattle.std.specs.List.{AllByRecursion}
use Rattle.std.proofs.Props.{props}
use Rattle.std.proofs.ByRecursion.{All-get_or}
use Rattle.std.proofs.lemmas.List.{drop-take, get_or-map}
use Rattle.std.proofs.lemmas.Option.{slice_get-get_or}
use Rattle.area.specs.Digits.{number, digits, chunks}
use Rattle.area.specs.Fault.{refuse}
use Rattle.area.specs.Slice.{Slice, contents, of_bytes, spill, words_for}
use Rattle.area.specs.declared.fault.Fault.{Fault}
use Rattle.area.specs.declared.fault.Refusal.TheVariants.{OutOfRange}
use Rattle.area.proofs.DigitLemmas.{all_length_digits, bytes_of_bits, get_or-chunks, get_or_joined, length-chunks, length_digits, number_digits, number_digits_low, take-digits}
use Rattle.area.proofs.SliceLemmas.{length-contents, length-spill}
use Rattle.std.specs.List.{slice_get}
use Rattle.storage.proofs.StoreLemmas.{slice_get_found}
use Rattle.column.specs.Column.{element, slice_length, word_in_slice}
use Rattle.column.specs.Element.{Codec, OneToOne, unsigned}
use Rattle.column.specs.Kind.{CAP, Format, L}
use Rattle.column.specs.Run.{elements, run_format}
use Rattle.column.proofs.ColumnLemmas.{element_at_lem, element_found, element_past}
use Rattle.column.specs.KindLemmas.{in_bounds}
use Rattle.column.specs.RunLaws.{length-elements}
use Rattle.column.proofs.RunLemmas.{one_length, one_word, one_word_past, past_from_err}
use Rattle.decode.specs.Decode.{Inside, slice_in}
use Rattle.decode.specs.declared.span.Span.{Span}
use Rattle.decode.proofs.PartLemmas.{spill-drop, spill-take}
use Rattle.read.specs.Form.{Stands, element_at, list_of}
use Rattle.read.specs.FormLaws.{accepted, stood}

-- a run keeps to one fact, its place, so that a view's form is known to stand
pub run_stood : {E : Type 0} {F : Format E} {s : Span} {ws : List ℕ} → ∥ Stands (λ t vs. slice_in vs t ∷ []) (λ t vs. Inside vs t) F s ws ∥₁ → Stands (λ t vs. slice_in vs t ∷ []) (λ t vs. Inside vs t) F s ws
run_stood h = stood (λ t vs. hlevel props) h

-- the first k bytes of word i
pub spill_at : (ws : List ℕ) (i k : ℕ) → i < length ws → k ≤ 8 → take k (drop (8 * i) (spill ws)) ≡ digits 256 k (get_or ws i 0)
spill_at ws i k h l =
    let w : ℕ = get_or ws i 0 in
    rw (← spill-drop i ws, drop-cons ws i 0 h)
    (take-append-le k (digits 256 8 w) (spill (drop (suc i) ws)) (omega (arith, length_digits 256 8 w)) ∙ take-digits 256 k 8 w l)

-- elements that stand from word p on
module _ (ws : List ℕ) (p i : ℕ) where
  pub word_stored : p + i < length ws → AllByRecursion (λ w. w < 2 ^ 64) ws → slice_get ws (p + i) ≡ Some (element_at (unsigned 8) ws p i)
  word_stored h u =
      let w : ℕ = get_or ws (p + i) 0 in
      let q : 8 * p + 8 * i ≡ 8 * (p + i) = omega arith in
      slice_get-get_or ws (p + i) 0 h
      ∙ ap Some (sym (rw (q, spill_at ws (p + i) 8 h (omega arith)) (number_digits 256 8 w (lit< tt) (All-get_or (λ v. v < 2 ^ 64) ws (p + i) 0 h u))))

  pub byte_stored : (w : ℕ) → Some w ≡ slice_get ws (p + i / 8) → get_or (digits 256 8 w) (i % 8) 0 ≡ element_at (unsigned 1) ws p i
  byte_stored w e =
      let a = slice_get_found ws (p + i / 8) w e in
      let n : ℕ = 8 * (p + i / 8) + i % 8 in
      let q : 8 * p + 1 * i ≡ n = omega arith in
      let here : get_or (spill ws) n 0 ≡ get_or (digits 256 8 w) (i % 8) 0 =
      get_or_joined (digits 256 8) 8 ws (p + i / 8) (i % 8) 0 0 (all_length_digits 256 8 ws) a.0 (omega arith) ∙ ap (λ v. get_or (digits 256 8 v) (i % 8) 0) a.1 in
      sym (rw (q, drop-cons (spill ws) n 0 (omega (arith, length-spill ws))) (omega arith))

-- k elements from place a on, of the first n
part_in : {X : Type 0} (xs : List X) (a k n : ℕ) → a + k ≤ n → take k (drop a (take n xs)) ≡ take k (drop a xs)
part_in xs a k n h =
    let q : n ≡ a + (n - a) = omega arith in
    ap (λ m. take k (drop a (take m xs))) q ∙ ap (take k) (drop-take a (n - a) xs) ∙ take-take k (n - a) (drop a xs) (omega arith)

-- word i of the bytes that count: whole, or its first l bytes where no more are left
module _ (s : Slice) (i w : ℕ) (e : Ok w ≡ element s.words i) where
  pub word-whole : w < 2 ^ 64 → 8 * i + 8 ≤ s.bytes → w ≡ number 256 (take 8 (drop (8 * i) (contents s)))
  word-whole u h =
      let a = element_found s.words i w 0 e in
      sym (ap (number 256) (part_in (spill s.words) (8 * i) 8 s.bytes h ∙ spill_at s.words i 8 a.0 (omega arith) ∙ ap (digits 256 8) a.1) ∙ number_digits 256 8 w (lit< tt) u)

  pub word_part : (l : ℕ) → l ≤ 8 → s.bytes ≡ 8 * i + l → w % 2 ^ (8 * l) ≡ number 256 (take 8 (drop (8 * i) (contents s)))
  word_part l h q =
      let a = element_found s.words i w 0 e in
      let part : drop (8 * i) (contents s) ≡ digits 256 l w =
      ap (λ n. drop (8 * i) (take n (spill s.words))) q ∙ drop-take (8 * i) l (spill s.words) ∙ spill_at s.words i l a.0 h ∙ ap (digits 256 l) a.1 in
      ap (λ n. w % n) (bytes_of_bits l)
      ∙ sym (ap (λ bs. number 256 (take 8 bs)) part ∙ ap (number 256) (take_all 8 (digits 256 l w) (omega (arith, length_digits 256 l w))) ∙ number_digits_low 256 l w (lit< tt))

-- the bytes of a slice at a place
pub contents_span : (ws : List ℕ) (s : Span) → contents (slice_in ws s) ≡ take s.bytes (drop (8 * s.from) (spill ws))
contents_span ws s =
    rw (spill-take (words_for s.bytes) (drop s.from ws), spill-drop s.from ws)
    (take-take s.bytes (8 * words_for s.bytes) (drop (8 * s.from) (spill ws)) (omega arith))

-- a form that stands for its list
module _ {E : Type 0} {fits : E → Bool} {C : Codec E} (O : OneToOne fits C) {s : Span} {ws : List ℕ} (h : Stands (λ t vs. slice_in vs t ∷ []) (λ t vs. Inside vs t) (run_format C) s ws) where
  run_list_lem : list_of (run_format C) (slice_in ws s ∷ []) ≡ elements C (slice_in ws s)
  run_list_lem = sym (in_bounds (leb (s.bytes / C.size) L) (elements C (slice_in ws s)) (list_of (run_format C) (slice_in ws s ∷ [])) (accepted h).reading).1

  pub run_length : s.bytes / C.size ≡ length (list_of (run_format C) (slice_in ws s ∷ []))
  run_length = sym (ap length run_list_lem ∙ length-elements fits C O (slice_in ws s))

  pub run_past : (i : ℕ) → s.bytes / C.size ≤ i → Err (refuse OutOfRange 0) ≡ element (list_of (run_format C) (slice_in ws s ∷ [])) i
  run_past i l = sym (element_past (list_of (run_format C) (slice_in ws s ∷ [])) i (omega (arith, run_length)))

  module _ (i : ℕ) (l : i < s.bytes / C.size) where
    under : C.size * i + C.size ≤ s.bytes
    under = omega (arith, mul-suc C.size i, mul-le-mul_left C.size l, mul-div-le s.bytes C.size)

    pub run_room : 8 * s.from + C.size * suc i ≤ 8 * length ws
    run_room = omega (arith, under, mul-suc C.size i, h.keeps.within)

    pub run_at : Ok (element_at C ws s.from i) ≡ element (list_of (run_format C) (slice_in ws s ∷ [])) i
    run_at =
        let n : ℕ = s.bytes / C.size in
        let cs : List (List ℕ) = chunks C.size n (contents (slice_in ws s)) in
        let x : E = element_at C ws s.from i in
        let here : get_or cs i [] ≡ take C.size (drop (8 * s.from + C.size * i) (spill ws)) =
        get_or-chunks C.size n (contents (slice_in ws s)) i l
        ∙ ap (λ bs. take C.size (drop (C.size * i) bs)) (contents_span ws s)
        ∙ part_in (drop (8 * s.from) (spill ws)) (C.size * i) C.size s.bytes under
        ∙ ap (take C.size) (drop-drop (C.size * i) (8 * s.from) (spill ws)) in
        sym (ap (λ xs. element xs i) run_list_lem ∙ element_at_lem (elements C (slice_in ws s)) i x (omega (arith, length-elements fits C O (slice_in ws s)))
        ∙ ap Ok (get_or-map C.value cs i [] x (omega (arith, length-chunks C.size n (contents (slice_in ws s)))) ∙ ap C.value here))

  run_bytes : length (contents (slice_in ws s)) ≡ s.bytes
  run_bytes = length-contents (slice_in ws s) h.passed.formed.0

  pub run_slice : (k : ℕ) → k ≤ 0 → Ok s.bytes ≡ slice_length (of_bytes (contents (slice_in ws s)) ∷ []) k
  run_slice k p = ap Ok (sym run_bytes) ∙ sym (one_length (of_bytes (contents (slice_in ws s))) k p (omega (arith, run_bytes, h.keeps.within, h.keeps.short)))

  -- word i, of which s.bytes - 8 * i bytes count
  module _ (k i w : ℕ) (p : k ≤ 0) (e : Ok w ≡ element (slice_in ws s).words i) where
    pub run_word_begins : (8 * i < s.bytes) × (s.bytes ≤ 8 * CAP)
    run_word_begins = let a = element_found (slice_in ws s).words i w 0 e in (omega (arith, a.0, h.passed.formed.0.1), omega (arith, h.keeps.within, h.keeps.short))

    pub run_word : 8 ≤ s.bytes - 8 * i → Ok w ≡ word_in_slice (of_bytes (contents (slice_in ws s)) ∷ []) k i
    run_word l =
        let a = element_found (slice_in ws s).words i w 0 e in
        let u : w < 2 ^ 64 = subst (λ v. v < 2 ^ 64) a.1 (All-get_or (λ v. v < 2 ^ 64) (slice_in ws s).words i 0 a.0 h.passed.formed.0.0) in
        one_word (contents (slice_in ws s)) k s.bytes i (run_slice k p) w (omega arith) (word-whole (slice_in ws s) i w e u (omega arith))

    pub run_word_part : s.bytes - 8 * i < 8 → Ok (w % 2 ^ (8 * (s.bytes - 8 * i))) ≡ word_in_slice (of_bytes (contents (slice_in ws s)) ∷ []) k i
    run_word_part l =
        one_word (contents (slice_in ws s)) k s.bytes i (run_slice k p) (w % 2 ^ (8 * (s.bytes - 8 * i))) run_word_begins.0
        (word_part (slice_in ws s) i w e (s.bytes - 8 * i) (omega arith) (omega (arith, run_word_begins.0)))

  pub run_word_past : (k i : ℕ) (f : Fault) → k ≤ 0 → Err f ≡ element (slice_in ws s).words i → Err f ≡ word_in_slice (of_bytes (contents (slice_in ws s)) ∷ []) k i
  run_word_past k i f p e =
      let l = past_from_err (slice_in ws s).words i f e in
      let q : f ≡ refuse OutOfRange 0 = cc (e, element_past (slice_in ws s).words i l) in
      one_word_past (contents (slice_in ws s)) k s.bytes i (run_slice k p) f (inr (omega (arith, l, h.passed.formed.0.1))) q
