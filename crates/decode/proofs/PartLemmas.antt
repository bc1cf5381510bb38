-- The slices of a byte area are parts of it.
use Rattle.std.proofs.Common.{◌≡◌, ℕ, zero, suc, ◌+◌, ◌-◌, ◌*◌, ◌/◌, ◌%◌, ◌<◌, ◌≤◌, eqb, leb, true, List, [], ◌∷◌, length, take, drop, None, Ok, Err, sym, refl, ap, ◌∙◌, ⊎_elim, append-nil, add_comm, mul-suc, arith, take-take, drop-drop, take-add}
use lib.Seq.{drop-nil, take-nil}
use Rattle.std.specs.List.{AllByRecursion}
use Rattle.std.proofs.lemmas.Bool.{and_parts, cases_lt, eqb-true, lt-ltb}
use Rattle.area.specs.Fault.{refuse}
use Rattle.area.specs.declared.fault.Fault.{Fault}
use Rattle.area.specs.declared.fault.Refusal.TheVariants.{OutOfRange}
use Rattle.area.specs.Slice.{contents, spill, words_for}
use Rattle.area.proofs.DigitLemmas.{joined_digits}
use Rattle.column.specs.Kind.{CAP, slot}
use Rattle.storage.specs.Store.{join_words, length_stands}
use Rattle.storage.proofs.StoreLemmas.{length-join_words}
use Rattle.decode.specs.declared.span.Span.{Span}
use Rattle.decode.specs.Decode.{part_of, slice_at, slices_of, span_answer, span_of, structure_fault}
use Rattle.decode.proofs.DecodeLemmas.{span_inside, span_past, span_slice}

-- the bytes of some of the words
pub spill-drop : (n : ℕ) (ws : List ℕ) → spill (drop n ws) ≡ drop (8 * n) (spill ws)
spill-drop zero ws = refl
spill-drop (suc n) [] = sym (drop-nil (8 * suc n))
spill-drop (suc n) (w ∷ ws) = spill-drop n ws ∙ rw (mul-suc, add_comm, ← drop-drop (8 * n) 8 (spill (w ∷ ws)))

pub spill-take : (n : ℕ) (ws : List ℕ) → spill (take n ws) ≡ take (8 * n) (spill ws)
spill-take zero ws = refl
spill-take (suc n) [] = sym (take-nil (8 * suc n))
spill-take (suc n) (w ∷ ws) = rw (spill-take n ws, mul-suc, add_comm, take-add 8 (8 * n) (spill (w ∷ ws)))

-- whole words as bytes again
pub spill-join_words : (bs : List ℕ) → AllByRecursion (λ b. b < 256) bs → length bs % 8 ≡ 0 → spill (join_words bs) ≡ bs
spill-join_words bs h m =
    let z : 8 * (length bs / 8) - length bs ≡ 0 = omega arith in
    joined_digits 256 8 (length bs / 8) bs h (omega arith) ∙ rw z (append-nil bs)

pub contents-join_words : (bs : List ℕ) (p n : ℕ) → AllByRecursion (λ b. b < 256) bs → length bs % 8 ≡ 0 → contents (slice_at (join_words bs) p n) ≡ take n (drop (8 * p) bs)
contents-join_words bs p n h m =
    rw (spill-take (words_for n) (drop p (join_words bs)), spill-drop p (join_words bs), spill-join_words bs h m)
    (take-take n (8 * words_for n) (drop (8 * p) bs) (omega arith))

-- a byte area whose words passed their questions
module _ (bs : List ℕ) (z : length_stands bs ≡ true) (h : structure_fault None (join_words bs) ≡ None) where
  whole_words : length bs % 8 ≡ 0
  whole_words = eqb-true _ _ (and_parts (eqb (length bs % 8) 0) (leb (length bs) 4294967288) z).0

  pub part_refused : (k : ℕ) (e : Fault) → Err e ≡ span_answer (join_words bs) k → (length (slices_of (join_words bs)) ≤ k) × (e ≡ refuse OutOfRange 0)
  part_refused k e a = ⊎_elim
      (λ l. let t = lt-ltb k (length (slices_of (join_words bs))) l in let b = rw t at a in cc)
      (λ m. (m, let b = a ∙ span_past (join_words bs) h k m in cc))
      (cases_lt k (length (slices_of (join_words bs))))

  module _ (k : ℕ) (s : Span) (a : Ok s ≡ span_answer (join_words bs) k) where
    found : (k < length (slices_of (join_words bs))) × (s ≡ span_of (join_words bs) k)
    found = ⊎_elim
        (λ l. (l, let t = lt-ltb k (length (slices_of (join_words bs))) l in cc (rw t at a)))
        (λ m. let e = a ∙ span_past (join_words bs) h k m in cc)
        (cases_lt k (length (slices_of (join_words bs))))

    pub part_within : (8 * s.from + s.bytes ≤ length bs) × (length bs ≤ 8 * CAP)
    part_within =
        let i = span_inside (join_words bs) h k found.0 in
        let f = ap (λ t. t.from) found.1 in
        let b = ap (λ t. t.bytes) found.1 in
        let n = length-join_words bs in
        let w = whole_words in
        (omega arith, omega arith)

    pub part_found : (p n : ℕ) → AllByRecursion (λ b. b < 256) bs → p ≡ 8 * s.from → n ≡ s.bytes → (k < length (slices_of (join_words bs))) × ((take n (drop p bs) ≡ part_of bs k) × (take n (drop p bs) ≡ contents (slot (slices_of (join_words bs)) k)))
    part_found p n u q r =
        let e : take n (drop p bs) ≡ part_of bs k = rw (q, r, found.1) refl in
        (found.0, (e, e ∙ (sym (contents-join_words bs (span_of (join_words bs) k).from (span_of (join_words bs) k).bytes u whole_words) ∙ ap contents (span_slice (join_words bs) h k found.0))))
