-- The read form of strides: the form of its bounds, what it answers, and how it is made.
use Rattle.std.proofs.Common.{◌≡◌, ℕ, ◌+◌, ◌-◌, ◌*◌, ◌^◌, ◌<◌, ◌≤◌, Bool, true, false, cond, not, ◌&&◌, ltb, leb, List, [], ◌∷◌, length, drop, is_some, Some, None, Ok, Err, Option, Result, refl, sym, ap, ◌∙◌, subst, ap₂, arith}
use Rattle.std.specs.List.{AllByRecursion}
use Rattle.std.specs.Option.{SomeIff}
use Rattle.std.proofs.lemmas.Bool.{ltb-true, and_from, and_left, and_right, le-leb, le-ltb, lt-leb, lt-ltb, true≢false}
use Rattle.area.specs.Fault.{refuse}
use Rattle.std.proofs.Props.{props}
use Rattle.area.specs.Slice.{Slice, of_words}
use Rattle.area.specs.declared.fault.Fault.{Fault}
use Rattle.area.specs.declared.fault.Refusal.TheVariants.{SliceContent}
use Rattle.column.specs.Column.{element, slice_length, word_in_slice}
use Rattle.column.specs.Kind.{CAP, L, after, first_refused, further, least_words, reading_within, reads, slot, word_of}
use Rattle.column.specs.KindLemmas.{least_words_lem, neither}
use Rattle.column.specs.Run.{word_run}
use Rattle.column.proofs.SliceAt.{slice_length_right, word_in_slice_right}
use Rattle.decode.specs.Decode.{Inside, least_words_answer, slice_in, slices_of, span_answer, structure_fault}
use Rattle.decode.proofs.DecodeLemmas.{asked-passed, slices_under}
use Rattle.decode.specs.declared.span.Span.{Span}
use Rattle.read.specs.Form.{FormAnswer, Stands, There, list_of, size_answer, slices_within}
use Rattle.read.proofs.FormLemmas.{accepted_list, first_slot, size-passed, there_count}
use Rattle.read.proofs.PlaceLemmas.{Made, Place, bounds_err, bounds_ok, form_err, made, no_word, place, size_err, size_right, slices_right, word_there, words_asked}
use Rattle.read.specs.FormLaws.{accepted, stood}
use Rattle.read.proofs.StandLemmas.{stands}
use Rattle.offsets.specs.Form.{StridesKept, strides_slices}
use Rattle.offsets.specs.Head.{strides_list}
use Rattle.offsets.specs.Strides.{strides_format}
use Rattle.offsets.specs.StridesLaws.{Parts, parts}
use Rattle.offsets.specs.declared.form.StridesForm.{StridesForm}

-- the form of a run of words
abbrev pub run_slices : Span → List ℕ → List Slice
run_slices s ws = slice_in ws s ∷ []

abbrev pub run_kept : Span → List ℕ → Type 0
run_kept s ws = Inside ws s

-- strides keep to facts that have one proof at most, so that a view's form is known to stand
pub strides_stood : {t : StridesForm} {ws : List ℕ} → ∥ Stands strides_slices StridesKept (strides_format word_run) t ws ∥₁ → Stands strides_slices StridesKept (strides_format word_run) t ws
strides_stood h = stood (λ t vs. hlevel props) h

-- a form that stands for its list: a head, and bounds whose form stands for theirs
module _ (t : StridesForm) (ws : List ℕ) (h : Stands strides_slices StridesKept (strides_format word_run) t ws) where
  abbrev bounds_of : List ℕ
  bounds_of = list_of word_run (run_slices t.bounds ws)

  apart : Parts word_run (strides_slices t ws) (list_of (strides_format word_run) (strides_slices t ws))
  apart = parts word_run (strides_slices t ws) _ (accepted h)

  same : bounds_of ≡ apart.bs
  same = accepted_list word_run (run_slices t.bounds ws) apart.bs apart.below

  pub bounds_stand : Stands run_slices run_kept word_run t.bounds ws
  bounds_stand = (stands run_slices run_kept word_run t.bounds ws (run_slices t.bounds ws) apart.bs h.keeps.bounds refl apart.below).0

  pub strides-is : list_of (strides_format word_run) (strides_slices t ws) ≡ strides_list t.head.stride t.head.length bounds_of
  strides-is = apart.is ∙ sym (ap₂ (λ s n. strides_list s n apart.bs) h.keeps.stride h.keeps.length) ∙ ap (strides_list t.head.stride t.head.length) (sym same)

  pub strides_fit : t.head.stride * t.head.length < 2 ^ 64
  strides_fit = subst (λ m. m < 2 ^ 64) (sym (ap₂ ◌*◌ h.keeps.stride h.keeps.length)) apart.fits

  pub strides_short : t.head.length + length bounds_of ≤ L
  strides_short = omega (arith, apart.short, h.keeps.length, ap length same)

  -- what it gives behind the head's slice
  module _ (k : ℕ) (p : 0 < k) where
    pub given_length : slice_length (word_run.giving (run_slices t.bounds ws)) (k - 1) ≡ slice_length ((strides_format word_run).giving (strides_slices t ws)) k
    given_length = sym (slice_length_right (of_words (slice_in ws t.place).words ∷ []) (word_run.giving (run_slices t.bounds ws)) k (omega arith) (λ q. omega arith))

    pub given_word : (i : ℕ) → word_in_slice (word_run.giving (run_slices t.bounds ws)) (k - 1) i ≡ word_in_slice ((strides_format word_run).giving (strides_slices t ws)) k i
    given_word i = sym (word_in_slice_right (of_words (slice_in ws t.place).words ∷ []) (word_run.giving (run_slices t.bounds ws)) k i (omega arith) (λ q. omega arith))

-- no slice that is found has a number as great as CAP, whatever is answered of it
found_by : {X : Type 0} (b : Bool) (r : Result X Fault) (f : Fault) (x : X) → Ok x ≡ cond b r (Err f) → b ≡ true
found_by true r f x q = refl
found_by false r f x q = cc

pub found : {X : Type 0} (ws : List ℕ) → structure_fault None ws ≡ None → (k : ℕ) (r : Result X Fault) (f : Fault) (x : X) → Ok x ≡ cond (ltb k (length (slices_of ws))) r (Err f) → k < CAP
found ws asked k r f x q = omega (arith, slices_under ws asked, (asked-passed None ws asked).0, ltb-true _ _ (found_by _ r f x q))

-- two slices: the head, and behind it the run of bounds
module _ (ws : List ℕ) (asked : structure_fault None ws ≡ None) (a : ℕ) (t : There ws a 2) where
  abbrev pair : List Slice
  pair = slices_within ws a 2

  abbrev behind : List Slice
  behind = slices_within ws (a + 1) 1

  behind-is : drop 1 pair ≡ behind
  behind-is = slices_right ws a 1 1 (a + 1) refl

  module _ (s : Span) (q : Ok s ≡ span_answer ws a) where
    at : Place ws asked a 2 t 0 s
    at = place ws asked a 2 t 0 a (omega arith) (omega arith) s q

  -- question 8
  head_asked : least_words_answer ws a 2 ≡ size_answer a (least_words 2 0 (slot pair 0))
  head_asked = words_asked ws a 2 t 0 a 2 (omega arith) (omega arith)

  pub head_few : (e : Fault) → Err e ≡ least_words_answer ws a 2 → Err e ≡ size_answer a ((strides_format word_run).sized pair)
  head_few e l = size_err a (least_words 2 0 (slot pair 0)) (further 1 (word_run.sized (drop 1 pair))) e (l ∙ head_asked)

  pub head_enough : {u : Unit {0}} (r : Result (Unit {0}) Fault) → Ok u ≡ least_words_answer ws a 2 → r ≡ size_answer (a + 1) (word_run.sized behind) → r ≡ size_answer a ((strides_format word_run).sized pair)
  head_enough r l e =
      e ∙ size_right a 1 (a + 1) (word_run.sized behind) refl
      ∙ ap (λ ss. size_answer a (further 1 (word_run.sized ss))) (sym behind-is)
      ∙ ap (λ o. size_answer a (first_refused o (further 1 (word_run.sized (drop 1 pair))))) (sym (size-passed a _ _ (l ∙ head_asked)))

  -- question 9
  module _ (z : (strides_format word_run).sized pair ≡ None) where
    sizes : (least_words 2 0 (slot pair 0) ≡ None) × (word_run.sized (drop 1 pair) ≡ None)
    sizes = neither 1 (least_words 2 0 (slot pair 0)) (word_run.sized (drop 1 pair)) z

    pub sized-behind : word_run.sized behind ≡ None
    sized-behind = ap word_run.sized (sym behind-is) ∙ sizes.1

    pub behind_refused : (e : Fault) → FormAnswer run_slices run_kept ws behind (a + 1) (word_run.reading behind) (Err e) → FormAnswer strides_slices StridesKept ws pair a ((strides_format word_run).reading pair) (Err e)
    behind_refused e r =
        form_err strides_slices StridesKept ws pair run_slices run_kept ws behind a (a + 1) 1 (word_run.reading (drop 1 pair)) _ e refl
        (subst (λ ss. FormAnswer run_slices run_kept ws behind (a + 1) (word_run.reading ss) (Err e)) (sym behind-is) r)

    module _ (s : Span) (q : Ok s ≡ span_answer ws a) (vs : List ℕ) (v : vs ≡ ws) where
      pub head-word : (i w : ℕ) → (Inside vs s → Ok w ≡ element (slice_in vs s).words i) → w ≡ word_of (slot pair 0) i
      head-word i w h = word_there ws asked a 2 t 0 s (at s q) vs v i w h

      pub head_there : (i : ℕ) (e : Fault) (r : Result StridesForm Fault) → i < 2 → (Inside vs s → Err e ≡ element (slice_in vs s).words i) → FormAnswer strides_slices StridesKept ws pair a ((strides_format word_run).reading pair) r
      head_there i e r l h = absurd (no_word ws asked a 2 t 0 s (at s q) vs v i e h (omega (arith, least_words_lem 2 0 (slot pair 0) sizes.0)))

    module _ (whole : AllByRecursion (λ w. w < 2 ^ 64) ws) (b : Span) (r : FormAnswer run_slices run_kept ws behind (a + 1) (word_run.reading behind) (Ok b)) where
      bounds : Made ws asked whole run_slices run_kept word_run (a + 1) (omega arith) b
      bounds = made ws asked whole run_slices run_kept word_run (a + 1) (omega arith) sized-behind b r

      pub bounds_form : Stands run_slices run_kept word_run b ws
      bounds_form = bounds.stands

      abbrev bounded : List ℕ
      bounded = list_of word_run (run_slices b ws)

      module _ (x n : ℕ) (u : x ≡ word_of (slot pair 0) 0) (v : n ≡ word_of (slot pair 0) 1) where
        abbrev within : Bool
        within = ltb (x * n) (2 ^ 64) && leb (n + length bounded) L

        reading-is : (strides_format word_run).reading pair ≡ reading_within within (strides_list x n bounded)
        reading-is =
            ap (λ o. after 1 o (λ bs. reading_within (ltb (word_of (slot pair 0) 0 * word_of (slot pair 0) 1) (2 ^ 64) && leb (word_of (slot pair 0) 1 + length bs) L) (strides_list (word_of (slot pair 0) 0) (word_of (slot pair 0) 1) bs))) (ap word_run.reading behind-is ∙ bounds.reading ∙ ap reads (sym bounds.list))
            ∙ ap₂ (λ i j. reading_within (ltb (i * j) (2 ^ 64) && leb (j + length bounded) L) (strides_list i j bounded)) (sym u) (sym v)

        pub form_failed : (e : Fault) → within ≡ false → e ≡ refuse SliceContent a → FormAnswer strides_slices StridesKept ws pair a ((strides_format word_run).reading pair) (Err e)
        form_failed e h o =
            subst (λ y. FormAnswer strides_slices StridesKept ws pair a y (Err e)) (sym reading-is)
            (bounds_err strides_slices StridesKept ws pair a within (strides_list x n bounded) e h o)

        pub too_far : 2 ^ 64 ≤ x * n → within ≡ false
        too_far l = and_left _ _ (le-ltb (x * n) (2 ^ 64) l)

        pub too_long : L < n + length bounded → within ≡ false
        too_long l = and_right _ _ (lt-leb (n + length bounded) L l)

        pub form_made : (s : Span) → Ok s ≡ span_answer ws a → x * n < 2 ^ 64 → n + length bounded ≤ L → FormAnswer strides_slices StridesKept ws pair a ((strides_format word_run).reading pair) (Ok (record { place = s; head = record { stride = x; length = n }; bounds = b }))
        form_made s q h l =
            let p = at s q in
            let form : StridesForm = record { place = s; head = record { stride = x; length = n }; bounds = b } in
            subst (λ y. FormAnswer strides_slices StridesKept ws pair a y (Ok form)) (sym reading-is)
            (bounds_ok strides_slices StridesKept ws pair a within (strides_list x n bounded) form
            (and_from _ _ (lt-ltb (x * n) (2 ^ 64) h) (le-leb (n + length bounded) L l))
            (record { inside = p.inside; stride = u ∙ ap (λ y. word_of y 0) (sym p.slice); length = v ∙ ap (λ y. word_of y 1) (sym p.slice); bounds = bounds.keeps })
            (ap₂ ◌∷◌ p.slice (bounds.of ∙ sym behind-is) ∙ first_slot pair (omega (arith, there_count ws a 2 t))))

-- what a checked product says, by whether it is there
pub checked_some : (o : Option ℕ) (P : Type 0) (v : ℕ) (r : Bool) → SomeIff o P v → is_some o ≡ not r → r ≡ false → P
checked_some (Some x) P v r c e h = c.0
checked_some None P v r c e h = let z : ◌≡◌ {A = Bool} true false = sym (ap not h) ∙ sym e in absurd (true≢false z)

pub checked_none : (o : Option ℕ) (P : Type 0) (v : ℕ) (r : Bool) → SomeIff o P v → is_some o ≡ not r → r ≡ true → P → ⊥
checked_none (Some x) P v r c e h p = true≢false (e ∙ ap not h)
checked_none None P v r c e h p = c p
