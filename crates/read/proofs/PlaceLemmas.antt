-- The slices of a composed kind: the parts of them, their places, and what is answered of them.
use Rattle.std.proofs.Common.{◌≡◌, ℕ, zero, suc, ◌+◌, ◌^◌, ◌<◌, Bool, true, false, cond, leb, List, [], ◌∷◌, ◌++◌, length, get_or, take, drop, Some, None, Ok, Err, Option, sym, refl, ap, ◌∙◌, subst, add-zero, add_assoc, arith}
use Rattle.std.specs.List.{AllByRecursion}
use Rattle.std.proofs.lemmas.List.{drop-drop, drop-take, take_all, take_more, take-take}
use Rattle.std.proofs.lemmas.Bool.{lt-ltb}
use Rattle.area.specs.Fault.{refuse}
use Rattle.area.specs.Slice.{Slice, words_for}
use Rattle.area.specs.declared.fault.Fault.{Fault}
use Rattle.area.specs.declared.fault.Refusal.TheVariants.{SliceContent, SliceSize}
use Rattle.column.specs.Column.{element}
use Rattle.column.specs.Kind.{Accepted, Format, Reading, after, first_refused, further, reading_within, least_words, reads, refuses, slot, word_of}
use Rattle.column.proofs.ColumnLemmas.{element_at_lem}
use Rattle.decode.specs.Decode.{Inside, least_words_answer, slice_in, slices_of, span_answer, structure_fault}
use Rattle.decode.specs.declared.span.Span.{Span}
use Rattle.decode.proofs.DecodeLemmas.{length_span}
use Rattle.read.specs.Form.{FormAnswer, Stands, There, list_of, size_answer, slices_within}
use Rattle.read.proofs.FormLemmas.{form_read, got, slot_within, there_count, there_formed}
use Rattle.read.proofs.StandLemmas.{stands}

-- question 8: refused, of two parts, and of one slice
module _ (a : ℕ) where
  pub size_err : (o q : Option ℕ) (e : Fault) → Err e ≡ size_answer a o → Err e ≡ size_answer a (first_refused o q)
  size_err None q e h = cc
  size_err (Some k) q e h = h

  -- of slices that begin at number b, n further on
  pub size_right : (n b : ℕ) (o : Option ℕ) → b ≡ a + n → size_answer b o ≡ size_answer a (further n o)
  size_right n b None e = refl
  size_right n b (Some k) e = ap (λ j. Err (refuse SliceSize j)) (ap (λ c. c + k) e ∙ add_assoc a n k)

-- of one slice, number k, that is number j of those from number a on
words_by : (a j k : ℕ) (b : Bool) → k ≡ a + j → cond b (Ok tt) (Err (refuse SliceSize k)) ≡ size_answer a (cond b None (Some j))
words_by a j k true e = refl
words_by a j k false e = ap (λ i. Err (refuse SliceSize i)) e

pub words_asked : (ws : List ℕ) (a n : ℕ) → There ws a n → (j k m : ℕ) → j < n → k ≡ a + j → least_words_answer ws k m ≡ size_answer a (least_words m j (slot (slices_within ws a n) j))
words_asked ws a n t j k m h e =
    rw (lt-ltb k (length (slices_of ws)) (omega (arith, t, e)), ap (slot (slices_of ws)) e ∙ sym (slot_within ws a n j h))
    (words_by a j k (leb m (length (slot (slices_within ws a n) j).words)) e)

-- question 9: what a form was made of, and what was refused
module _ {E Form : Type 0} (slices : Form → List ℕ → List Slice) (kept : Form → List ℕ → Type 0) (ws : List ℕ) (ss : List Slice) where
  pub form_err : {D Whole : Type 0} (below : Whole → List ℕ → List Slice) (keeps : Whole → List ℕ → Type 0) (vs : List ℕ) (rs : List Slice) (a b n : ℕ) (r : Reading D) (f : List D → Reading E) (e : Fault) → b ≡ a + n → FormAnswer below keeps vs rs b r (Err e) → FormAnswer slices kept ws ss a (after n r f) (Err e)
  form_err below keeps vs rs a b n (reads xs) f e q h = absurd h
  form_err below keeps vs rs a b n (refuses k) f e q h = h ∙ ap (refuse SliceContent) (ap (λ c. c + k) q ∙ add_assoc a n k)

  -- a list that has to be in bounds
  pub bounds_ok : (a : ℕ) (b : Bool) (xs : List E) (t : Form) → b ≡ true → kept t ws → slices t ws ≡ ss → FormAnswer slices kept ws ss a (reading_within b xs) (Ok t)
  bounds_ok a true xs t h k e = (k, e)
  bounds_ok a false xs t h k e = cc

  pub bounds_err : (a : ℕ) (b : Bool) (xs : List E) (e : Fault) → b ≡ false → e ≡ refuse SliceContent a → FormAnswer slices kept ws ss a (reading_within b xs) (Err e)
  bounds_err a true xs e h q = cc
  bounds_err a false xs e h q = q ∙ ap (refuse SliceContent) (sym (add-zero a))

-- the element that stands at a place
element_ok : (xs : List ℕ) (i x : ℕ) → Ok x ≡ element xs i → x ≡ get_or xs i 0
element_ok [] i x e = cc
element_ok (y ∷ xs) zero x e = cc
element_ok (y ∷ xs) (suc i) x e = element_ok xs i x e

element_err : (xs : List ℕ) (i : ℕ) (e : Fault) → Err e ≡ element xs i → i < length xs → ⊥
element_err xs i e h l = let k = element_at_lem xs i 0 l in cc

-- the first m of m + n slices, and the n after them, which begin at number b
module _ (ws : List ℕ) (a m n : ℕ) where
  pub slices_left : take m (slices_within ws a (m + n)) ≡ slices_within ws a m
  slices_left = take-take m (m + n) (drop a (slices_of ws)) (omega arith)

  pub slices_right : (b : ℕ) → b ≡ a + m → drop m (slices_within ws a (m + n)) ≡ slices_within ws b n
  slices_right b e = drop-take m n (drop a (slices_of ws)) ∙ ap (take n) (drop-drop m a (slices_of ws) ∙ ap (λ k. drop k (slices_of ws)) (sym e))

-- the last slice after the n others
pub slices_last : (ws : List ℕ) (a n : ℕ) → There ws a (n + 1) → slices_within ws a n ++ slot (slices_within ws a (n + 1)) n ∷ [] ≡ slices_within ws a (n + 1)
slices_last ws a n t =
    let ss = slices_within ws a (n + 1) in
    let l = there_count ws a (n + 1) t in
    ap (λ rs. rs ++ slot ss n ∷ []) (sym (slices_left ws a n 1))
    ∙ sym (sym (take_all (n + 1) ss (omega arith)) ∙ take_more ss n (record { words = []; bytes = 0 }) (omega arith))

module _ (ws : List ℕ) (asked : structure_fault None ws ≡ None) (a n : ℕ) (t : There ws a n) where
  -- slice j of n, which has number k, and its place
  pub record Place (j : ℕ) (p : Span) : Type 0 where
    pub inside : Inside ws p
    pub slice : slice_in ws p ≡ slot (slices_within ws a n) j
    pub size : length (slot (slices_within ws a n) j).words ≡ words_for p.bytes

  module _ (j k : ℕ) (h : j < n) (e : k ≡ a + j) where
    pub place : (p : Span) → Ok p ≡ span_answer ws k → Place j p
    place p g =
        let (i, x) = got ws asked a n t j k h e p g in
        record { inside = i; slice = x; size = ap (λ y. length y.words) (sym x) ∙ length_span ws p i }

  -- a word there, as it is read from the store's words
  module _ (j : ℕ) (p : Span) (at : Place j p) (vs : List ℕ) (e : vs ≡ ws) (i : ℕ) where
    pub word_there : (w : ℕ) → (Inside vs p → Ok w ≡ element (slice_in vs p).words i) → w ≡ word_of (slot (slices_within ws a n) j) i
    word_there w h =
        let r : Ok w ≡ element (slice_in ws p).words i = subst (λ us. Inside us p → Ok w ≡ element (slice_in us p).words i) e h at.inside in
        element_ok _ i w (subst (λ s. Ok w ≡ element s.words i) at.slice r)

    pub no_word : (g : Fault) → (Inside vs p → Err g ≡ element (slice_in vs p).words i) → i < length (slot (slices_within ws a n) j).words → ⊥
    no_word g h =
        let r : Err g ≡ element (slice_in ws p).words i = subst (λ us. Inside us p → Err g ≡ element (slice_in us p).words i) e h at.inside in
        element_err _ i g (subst (λ s. Err g ≡ element s.words i) at.slice r)

-- what question 9 answered of slices that passed the others: their form stands for what they read as
module _ (ws : List ℕ) (asked : structure_fault None ws ≡ None) (whole : AllByRecursion (λ w. w < 2 ^ 64) ws) {E Form : Type 0} (slices : Form → List ℕ → List Slice) (kept : Form → List ℕ → Type 0) (F : Format E) (a : ℕ) (t : There ws a F.slots) where
  pub record Made (x : Form) : Type 0 where
    pub xs : List E
    pub reading : F.reading (slices_within ws a F.slots) ≡ reads xs
    pub keeps : kept x ws
    pub of : slices x ws ≡ slices_within ws a F.slots
    pub stands : Stands slices kept F x ws
    pub list : list_of F (slices x ws) ≡ xs

  pub made : F.sized (slices_within ws a F.slots) ≡ None → (x : Form) → FormAnswer slices kept ws (slices_within ws a F.slots) a (F.reading (slices_within ws a F.slots)) (Ok x) → Made x
  made z x h =
      let (xs, r, k, e) = form_read slices kept ws (slices_within ws a F.slots) a _ x h in
      let b : Accepted F (slices_within ws a F.slots) xs = record { count = there_count ws a F.slots t; formed = there_formed ws asked a F.slots t whole; fitting = z; reading = r } in
      let m = stands slices kept F x ws (slices_within ws a F.slots) xs k (sym e) b in
      record { xs = xs; reading = r; keeps = k; of = e; stands = m.0; list = m.1 }
