-- Parts of decoded slices, what accepted slices read as, and what the answers on slices and on forms say.
use Rattle.std.proofs.Common.{◌≡◌, ℕ, ◌+◌, ◌^◌, ◌<◌, ◌≤◌, min, Bool, List, [], ◌∷◌, length, get_or, take, drop, Some, None, Ok, Option, sym, refl, ap, ◌∙◌, subst, arith, length-drop, length-take, get_or-drop, get_or-take}
use Rattle.std.specs.List.{AllByRecursion}
use Rattle.std.proofs.ByRecursion.{All-drop, All-from_get_or, All-take}
use Rattle.std.proofs.lemmas.Bool.{lt-ltb}
use Rattle.area.specs.Slice.{Slice, WellFormed, words_for}
use Rattle.column.specs.Kind.{Accepted, CAP, Format, Laws, Reading, reads, refuses, slot}
use Rattle.decode.specs.Decode.{Inside, slice_in, slices_of, span_answer, span_of, structure_fault}
use Rattle.decode.specs.declared.span.Span.{Span}
use Rattle.decode.proofs.DecodeLemmas.{asked-passed, length_span, slices_under, span_inside, span_slice}
use Rattle.read.specs.Form.{Stands, There, FormAnswer, list_of, size_answer, slices_within}
use Rattle.read.specs.FormLaws.{accepted}

-- what accepted slices read as
abbrev pub list_in : {E : Type 0} → Reading E → List E
list_in r = elim r [ reads xs ↦ xs | refuses k ↦ [] ]

module _ {E : Type 0} (F : Format E) (ss : List Slice) (xs : List E) where
  pub reads_list : F.reading ss ≡ reads xs → list_of F ss ≡ xs
  reads_list e = ap list_in e

  pub accepted_list : Accepted F ss xs → list_of F ss ≡ xs
  accepted_list a = reads_list a.reading

-- n elements of a list, from place a on
module _ {X : Type 0} (ss : List X) (a n : ℕ) where
  get_or_part : (j : ℕ) (x : X) → j < n → get_or (take n (drop a ss)) j x ≡ get_or ss (a + j) x
  get_or_part j x h = get_or-take n (drop a ss) j x h ∙ get_or-drop a ss j x

  length_part : a + n ≤ length ss → length (take n (drop a ss)) ≡ n
  length_part h = rw (length-take, length-drop) (omega arith)

pub slot_within : (ws : List ℕ) (a n j : ℕ) → j < n → slot (slices_within ws a n) j ≡ slot (slices_of ws) (a + j)
slot_within ws a n j h = get_or_part (slices_of ws) a n j (record { words = []; bytes = 0 }) h

-- the first slice, and those after it
pub first_slot : (ss : List Slice) → 0 < length ss → slot ss 0 ∷ drop 1 ss ≡ ss
first_slot [] h = absurd (omega arith)
first_slot (s ∷ ss) h = refl

-- a kind gives as many slices as it has, of a form that stands
pub counted_given : {E X : Type 0} {fits : E → Bool} {F : Format E} {slices : X → List ℕ → List Slice} {kept : X → List ℕ → Type 0} {t : X} {ws : List ℕ} → Laws fits F → Stands slices kept F t ws → (n : ℕ) → n ≡ min F.slots CAP → n ≡ min (length (F.giving (slices t ws))) CAP
counted_given {F} {slices} {t} {ws} laws s n h = h ∙ ap (λ m. min m CAP) (sym (laws.given (slices t ws) _ (accepted s)).0.count)

-- slices of words below 2^64 that passed their questions
pub slices_formed : (ws : List ℕ) → structure_fault None ws ≡ None → AllByRecursion (λ w. w < 2 ^ 64) ws → AllByRecursion WellFormed (slices_of ws)
slices_formed ws asked whole = All-from_get_or WellFormed (slices_of ws) (record { words = []; bytes = 0 }) (λ k l.
    let s : Span = span_of ws k in
    subst WellFormed (span_slice ws asked k l) (
      All-take (λ w. w < 2 ^ 64) (words_for s.bytes) (drop s.from ws) (All-drop (λ w. w < 2 ^ 64) s.from ws whole),
      length_span ws s (span_inside ws asked k l),
    ))

pub there_count : (ws : List ℕ) (a n : ℕ) → There ws a n → length (slices_within ws a n) ≡ n
there_count ws a n t = length_part (slices_of ws) a n t

-- slices of words that passed their questions
module _ (ws : List ℕ) (asked : structure_fault None ws ≡ None) (a n : ℕ) (t : There ws a n) where
  pub there_few : a + n ≤ CAP
  there_few = let i = (asked-passed None ws asked).0 in omega (arith, slices_under ws asked)

  pub there_formed : AllByRecursion (λ w. w < 2 ^ 64) ws → AllByRecursion WellFormed (slices_within ws a n)
  there_formed whole = All-take WellFormed n (drop a (slices_of ws)) (All-drop WellFormed a (slices_of ws) (slices_formed ws asked whole))

  -- what is answered at one of them
  module _ (j k : ℕ) (h : j < n) (p : k ≡ a + j) where
    span_here : span_answer ws k ≡ Ok (span_of ws k)
    span_here = rw (lt-ltb k (length (slices_of ws)) (omega arith))

    pub got : (s : Span) → Ok s ≡ span_answer ws k → Inside ws s × (slice_in ws s ≡ slot (slices_within ws a n) j)
    got s e =
        let l : k < length (slices_of ws) = omega arith in
        let q : s ≡ span_of ws k = cc (e ∙ span_here) in
        rw q (
          span_inside ws asked k l,
          span_slice ws asked k l ∙ ap (slot (slices_of ws)) p ∙ sym (slot_within ws a n j h),
        )

-- what an answer to question 8 and one to question 9 say
pub size-passed : (a : ℕ) (o : Option ℕ) (u : Unit {0}) → Ok u ≡ size_answer a o → o ≡ None
size-passed a None u e = refl
size-passed a (Some k) u e = cc

pub form_read : {E Form : Type 0} (slices : Form → List ℕ → List Slice) (kept : Form → List ℕ → Type 0) (ws : List ℕ) (ss : List Slice) (a : ℕ) (r : Reading E) (t : Form) → FormAnswer slices kept ws ss a r (Ok t) → (xs : List E) × (r ≡ reads xs) × kept t ws × (slices t ws ≡ ss)
form_read slices kept ws ss a (reads xs) t (k, e) = (xs, refl, k, e)
form_read slices kept ws ss a (refuses k) t z = absurd z
