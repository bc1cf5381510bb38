-- Admission: what is asked of a store with the slice count that a kind can have, and what its answers say.
use Rattle.std.proofs.Common.{◌≡◌, ℕ, ◌+◌, ◌-◌, ◌*◌, ◌/◌, ◌^◌, ◌<◌, min, eqb, List, length, Some, None, Ok, Err, Option, Result, sym, refl, ap, ◌∙◌, zero-add, arith, take_all}
use Rattle.std.specs.List.{AllByRecursion}
use Rattle.std.proofs.lemmas.Bool.{eqb-true}
use Rattle.std.proofs.lemmas.Bool.Decides.{nat_tests}
use Rattle.area.specs.Fault.{refuse}
use Rattle.area.specs.Slice.{Slice}
use Rattle.area.specs.declared.fault.Fault.{Fault}
use Rattle.area.specs.declared.fault.Refusal.TheVariants.{SliceContent, SliceCount, SliceSize}
use Rattle.column.specs.Kind.{CAP, Format, Reading, reads, refuses}
use Rattle.decode.specs.Decode.{ask, ends_fault, first, index_answer, index_fault, slice_ends, slices_of, structure_fault}
use Rattle.decode.proofs.DecodeLemmas.{asked-passed, asked_uncounted, count_slices, index_counted, index_refused}
use Rattle.read.specs.Admission.{admission, content_answer, read_answer}
use Rattle.read.specs.Form.{FormAnswer, Passed, Stands, There, list_of, size_answer, slices_within}
use Rattle.read.proofs.FormLemmas.{size-passed}
use Rattle.read.proofs.PlaceLemmas.{made}
use Rattle.read.specs.FormLaws.{passed-accepted}

-- an index that passes questions 1 to 4 has fewer than CAP slices, and of any other no count is asked
module _ (ws : List ℕ) (n m : ℕ) (p : n ≡ min m CAP) where
  capped : (r : Result ℕ Fault) → index_answer ws ≡ r → structure_fault (Some n) ws ≡ structure_fault (Some m) ws
  capped (Ok q) h =
      let i = (index_counted ws q h).0 in
      let e : eqb (first ws / 8 - 1) n ≡ eqb (first ws / 8 - 1) m = grind (arith, nat_tests) in
      ap (λ b. index_fault ws (ask b SliceCount 0 (ends_fault (8 * length ws) 0 (first ws) (slice_ends ws)))) e
  capped (Err e) h = index_refused ws _ e h ∙ sym (index_refused ws _ e h)

  pub count-capped : structure_fault (Some n) ws ≡ structure_fault (Some m) ws
  count-capped = capped (index_answer ws) refl

-- the answers by what is asked first
abbrev after_structure : {E : Type 0} → Result (List E) Fault → Option Fault → Result (List E) Fault
after_structure r o = elim o [ None ↦ r | Some f ↦ Err f ]

abbrev after_size : {E : Type 0} → Reading E → Option ℕ → Result (List E) Fault
after_size r o = elim o [ None ↦ content_answer r | Some k ↦ Err (refuse SliceSize k) ]

sized_out : {E : Type 0} (r : Reading E) (o : Option ℕ) (e : Fault) → Err e ≡ size_answer 0 o → after_size r o ≡ Err e
sized_out r None e h = cc
sized_out r (Some k) e h = let q : refuse SliceSize (0 + k) ≡ e = cc in ap Err (ap (refuse SliceSize) (sym (zero-add k)) ∙ q)

unread : {E Form : Type 0} (slices : Form → List ℕ → List Slice) (kept : Form → List ℕ → Type 0) (ws : List ℕ) (ss : List Slice) (r : Reading E) (e : Fault) → FormAnswer slices kept ws ss 0 r (Err e) → content_answer r ≡ Err e
unread slices kept ws ss (reads xs) e h = absurd h
unread slices kept ws ss (refuses k) e h = ap Err (ap (refuse SliceContent) (sym (zero-add k)) ∙ sym h)

-- words that pass the questions with the kind's slice count
module _ {E : Type 0} (F : Format E) (ws : List ℕ) (n : ℕ) (p : n ≡ min F.slots CAP) (h : structure_fault (Some n) ws ≡ None) where
  pub all_asked : structure_fault (Some F.slots) ws ≡ None
  all_asked = sym (count-capped ws n F.slots p) ∙ h

  uncounted : structure_fault None ws ≡ None
  uncounted = asked_uncounted (Some n) ws h

  counted : length (slices_of ws) ≡ F.slots
  counted = count_slices ws uncounted ∙ eqb-true _ _ (asked-passed (Some F.slots) ws all_asked).1.0

  pub there_all : There ws 0 F.slots
  there_all = omega (arith, counted)

  slices_all : slices_within ws 0 F.slots ≡ slices_of ws
  slices_all = take_all F.slots (slices_of ws) (omega (arith, counted))

  read_by : admission F ws ≡ after_size (F.reading (slices_within ws 0 F.slots)) (F.sized (slices_within ws 0 F.slots))
  read_by = ap (after_structure (read_answer F (slices_of ws))) all_asked ∙ ap (read_answer F) (sym slices_all)

  pub size-admitted : (e : Fault) → Err e ≡ size_answer 0 (F.sized (slices_within ws 0 F.slots)) → admission F ws ≡ Err e
  size-admitted e a = read_by ∙ sized_out (F.reading (slices_within ws 0 F.slots)) (F.sized (slices_within ws 0 F.slots)) e a

  module _ {Form : Type 0} (slices : Form → List ℕ → List Slice) (kept : Form → List ℕ → Type 0) (z : F.sized (slices_within ws 0 F.slots) ≡ None) where
    pub form_unread : (e : Fault) → FormAnswer slices kept ws (slices_within ws 0 F.slots) 0 (F.reading (slices_within ws 0 F.slots)) (Err e) → admission F ws ≡ Err e
    form_unread e a =
        read_by ∙ ap (after_size (F.reading (slices_within ws 0 F.slots))) z
        ∙ unread slices kept ws (slices_within ws 0 F.slots) (F.reading (slices_within ws 0 F.slots)) e a

    pub form_admitted : (t : Form) → AllByRecursion (λ w. w < 2 ^ 64) ws → FormAnswer slices kept ws (slices_within ws 0 F.slots) 0 (F.reading (slices_within ws 0 F.slots)) (Ok t) → Stands slices kept F t ws × (slices t ws ≡ slices_of ws)
    form_admitted t whole a = let m = made ws uncounted whole slices kept F 0 there_all z t a in (m.stands, m.of ∙ slices_all)

  -- the same of what the parts of an admission answered of the store's words, as vs
  pub form_given : {Form : Type 0} (slices : Form → List ℕ → List Slice) (kept : Form → List ℕ → Type 0) (vs : List ℕ) → vs ≡ ws → AllByRecursion (λ w. w < 2 ^ 64) ws → (u : Unit {0}) → (There vs 0 F.slots → Ok u ≡ size_answer 0 (F.sized (slices_within vs 0 F.slots))) → (t : Form) → (There vs 0 F.slots → F.sized (slices_within vs 0 F.slots) ≡ None → FormAnswer slices kept vs (slices_within vs 0 F.slots) 0 (F.reading (slices_within vs 0 F.slots)) (Ok t)) → Stands slices kept F t ws × (slices t ws ≡ slices_of ws)
  form_given slices kept vs q whole u s t f =
      let z = size-passed 0 _ u ((rw q at s) there_all) in
      form_admitted slices kept z t whole ((rw q at f) there_all z)

-- what the type of an admitted image says: its words are admitted with the list of its form
pub admitted_list : {E : Type 0} {F : Format E} {ss : List Slice} (ws : List ℕ) → Passed F ss → ss ≡ slices_of ws → structure_fault (Some F.slots) ws ≡ None → admission F ws ≡ Ok (list_of F ss)
admitted_list {F} {ss} ws h e a =
    let b = passed-accepted h in
    ap (after_structure (read_answer F (slices_of ws))) a ∙ ap (read_answer F) (sym e) ∙ ap (after_size (F.reading ss)) b.fitting ∙ ap content_answer b.reading
