-- Images are decoded to the slices that they were made of, and so are admitted; what is admitted are accepted slices.
use Rattle.std.proofs.Common.{◌≡◌, ℕ, suc, ◌+◌, ◌-◌, ◌*◌, ◌/◌, ◌%◌, ◌^◌, ◌<◌, ◌≤◌, Bool, List, [], ◌∷◌, length, drop, Some, None, Ok, Err, Option, Result, sym, refl, ap, ◌∙◌, arith, length-take, drop-drop, take_at, drop_at}
use Rattle.std.specs.List.{AllByRecursion}
use Rattle.std.proofs.lemmas.Bool.{eq-eqb, eqb-true, le-leb}
use Rattle.area.specs.Fault.{refuse}
use Rattle.area.specs.Slice.{Slice, WellFormed, round_up, weight, words_for}
use Rattle.area.specs.declared.fault.Fault.{Fault}
use Rattle.area.specs.declared.fault.Refusal.TheVariants.{SliceSize}
use Rattle.column.specs.Kind.{Accepted, CAP, Format, Held, Laws, Reading, reads, refuses}
use Rattle.decode.specs.Decode.{ends_fault, first, slice_ends, slices_of, slices_to, structure_fault}
use Rattle.decode.proofs.DecodeLemmas.{Index, asked-passed, asked_uncounted, count_slices, ends-passed, index-asked}
use Rattle.indexed.specs.Image.{ends, image, index, words_of}
use Rattle.indexed.proofs.ImageLemmas.{err_not_ok, length-ends, length-image}
use Rattle.read.specs.Admission.{admission, content_answer}
use Rattle.read.proofs.FormLemmas.{slices_formed}

-- where the next slice begins after one that begins at word q
next_start : (s : Slice) (q : ℕ) → WellFormed s → words_for (8 * q + s.bytes) ≡ q + length s.words
next_start s q w = omega arith

-- slices whose words stand from word q on
slices_again : (ws : List ℕ) (q : ℕ) (ss : List Slice) → AllByRecursion WellFormed ss → drop q ws ≡ words_of ss → slices_to ws (8 * q) (ends (8 * q) ss) ≡ ss
slices_again ws q [] w h = refl
slices_again ws q (s ∷ ss) w h =
    let a : 8 * q / 8 ≡ q = omega arith in
    let b : 8 * q + s.bytes - 8 * q ≡ s.bytes = omega arith in
    let t = take_at s.words (words_of ss) (words_for s.bytes) w.0.1 in
    let d = sym (drop-drop (length s.words) q ws) ∙ ap (drop (length s.words)) h ∙ drop_at s.words (words_of ss) _ refl in
    let r = slices_again ws (q + length s.words) ss w.1 d in
    rw (a, b, h, t, next_start s q w.0, r)

-- ends of slices that have room in t words pass questions 6 and 7
ends_stand_lem : (t k q : ℕ) (ss : List Slice) → AllByRecursion WellFormed ss → q + weight ss ≤ t → ends_fault (8 * t) k (8 * q) (ends (8 * q) ss) ≡ None
ends_stand_lem t k q [] w h = refl
ends_stand_lem t k q (s ∷ ss) w h =
    let n = w.0.1 in
    let r = ends_stand_lem t (suc k) (q + length s.words) ss w.1 (omega arith) in
    rw (le-leb (8 * q + s.bytes) (8 * t) (omega arith), le-leb (8 * q) (8 * q + s.bytes) (omega arith), next_start s q w.0, r)

-- an image passes its questions, and holds its slices
pub image-decoded : (ss : List Slice) → AllByRecursion WellFormed ss → length (image ss) ≤ CAP → (structure_fault (Some (length ss)) (image ss) ≡ None) × (slices_of (image ss) ≡ ss)
image-decoded ss w h =
    let n = length-image ss in
    let p : ℕ = 8 * (1 + length ss) in
    let m = length-ends p ss in
    let c : p / 8 - 1 ≡ length ss = omega arith in
    let e : slice_ends (image ss) ≡ ends p ss = rw c (take_at (ends p ss) (words_of ss) (length ss) m) in
    let i : Index (image ss) = record { short = omega arith; some = omega arith; least = omega arith; whole = omega arith; room = omega arith } in (
      index-asked (image ss) _ i ∙ rw (eq-eqb (p / 8 - 1) (length ss) c, e) (ends_stand_lem (length (image ss)) 0 (1 + length ss) ss w (omega arith)),
      rw e (slices_again (image ss) (1 + length ss) ss w (drop_at (index ss) (words_of ss) (1 + length ss) (omega arith))),
    )

-- slices of words that pass the questions lie one after the other, from byte p on
slices_side : (ws : List ℕ) (t k p : ℕ) (es : List ℕ) → ends_fault (8 * t) k p es ≡ None → p % 8 ≡ 0 → p ≤ 8 * t → p + 8 * weight (slices_to ws p es) ≤ 8 * t
slices_side ws t k p [] f m h = omega arith
slices_side ws t k p (e ∷ es) f m h =
    let a = ends-passed (8 * t) k p e es f in
    omega (arith, slices_side ws t (suc k) (round_up e) es a.2 (omega arith) (omega arith), length-take (words_for (e - p)) (drop (p / 8) ws))

-- the slices of words that pass the questions lie side by side after the index
pub words_hold : (ws : List ℕ) → structure_fault None ws ≡ None → length (image (slices_of ws)) ≤ length ws
words_hold ws h =
    let i = asked-passed None ws h in
    omega (arith, length-image (slices_of ws), count_slices ws h, slices_side ws (length ws) 0 (first ws) (slice_ends ws) i.1.1 i.0.whole (omega arith))

-- admission by its parts: the questions 1 to 7, 8 and 9
module _ {E : Type 0} where
  abbrev answer : Option Fault → Option ℕ → Reading E → Result (List E) Fault
  answer p o r = elim p [ None ↦ elim o [ None ↦ content_answer r | Some k ↦ Err (refuse SliceSize k) ] | Some f ↦ Err f ]

  answer_ok : (p : Option Fault) (o : Option ℕ) (r : Reading E) (xs : List E) → answer p o r ≡ Ok xs → (p ≡ None) × (o ≡ None) × (r ≡ reads xs)
  answer_ok None None (reads ys) xs h = (refl, refl, cc)
  answer_ok None None (refuses k) xs h = absurd (err_not_ok h)
  answer_ok None (Some k) r xs h = absurd (err_not_ok h)
  answer_ok (Some f) o r xs h = absurd (err_not_ok h)

module _ {E : Type 0} (F : Format E) where
  -- accepted slices of which an image can be made are admitted from it
  pub image-admitted : (ss : List Slice) (xs : List E) → Accepted F ss xs → length (image ss) ≤ CAP → admission F (image ss) ≡ Ok xs
  image-admitted ss xs a h =
      let d = image-decoded ss a.formed h in
      let p : structure_fault (Some F.slots) (image ss) ≡ None = ap (λ n. structure_fault (Some n) (image ss)) (sym a.count) ∙ d.0 in
      λ i. answer (p i) ((ap F.sized d.1 ∙ a.fitting) i) ((ap F.reading d.1 ∙ a.reading) i)

  pub admission_parts : (ws : List ℕ) (xs : List E) → admission F ws ≡ Ok xs → (structure_fault (Some F.slots) ws ≡ None) × (F.sized (slices_of ws) ≡ None) × (F.reading (slices_of ws) ≡ reads xs)
  admission_parts ws xs = answer_ok (structure_fault (Some F.slots) ws) (F.sized (slices_of ws)) (F.reading (slices_of ws)) xs

  pub admitted-short : (ws : List ℕ) (xs : List E) → admission F ws ≡ Ok xs → length ws ≤ CAP
  admitted-short ws xs h = let i = (asked-passed (Some F.slots) ws (admission_parts ws xs h).0).0 in omega arith

  -- what is admitted are accepted slices (those of a store's words, all below 2^64)
  pub admitted-accepted : (ws : List ℕ) (xs : List E) → AllByRecursion (λ w. w < 2 ^ 64) ws → admission F ws ≡ Ok xs → Accepted F (slices_of ws) xs
  admitted-accepted ws xs u h =
      let a = admission_parts ws xs h in
      let b = asked_uncounted (Some F.slots) ws a.0 in
      record {
        count = count_slices ws b ∙ eqb-true _ _ (asked-passed (Some F.slots) ws a.0).1.0;
        formed = slices_formed ws b u;
        fitting = a.1;
        reading = a.2;
      }

module _ {E : Type 0} (fits : E → Bool) (F : Format E) (laws : Laws fits F) where
  -- what is written of a list is accepted, and reads as it
  pub written-accepted : (xs : List E) → Held fits xs → Accepted F (F.writing xs) xs
  written-accepted xs h =
      let s = laws.shape xs h in
      let r = laws.return xs h in
      record { count = s.0; formed = s.1; fitting = r.0; reading = r.1 }
