-- A column of strides: its head is its list's own, what it answers at a place, and what a push does to it.
use Rattle.std.proofs.Common.{◌≡◌, ℕ, zero, suc, ◌+◌, ◌-◌, ◌*◌, ◌^◌, ◌<◌, ◌≤◌, Bool, true, false, cond, ◌&&◌, eqb, ltb, List, [], ◌∷◌, ◌++◌, length, get_or, take, drop, Some, None, Ok, Err, Option, is_some, ⊎_elim, sym, refl, ap, ◌∙◌, ap₂, mul-one, arith}
use native.Mathlib.Nat.{sub-zero, suc-sub-suc}
use native.Mathlib.Numerals.{unary_clauses}
use Rattle.std.proofs.lemmas.List.{length-append, length_push, length-take-le, get_or_append_left, drop_at, nil_from_length}
use Rattle.std.proofs.lemmas.Bool.{and_parts, and_cases, eqb-true, eqb-false, eq-eqb, lt-ltb, and_from, or_left}
use Rattle.area.specs.Slice.{Slice, of_words}
use Rattle.area.specs.declared.fault.Fault.{Fault}
use Rattle.offsets.specs.declared.strides.Strides.{Strides}
use Rattle.offsets.specs.declared.head.Head.{Head}
use Rattle.column.specs.Column.{Areas, element, slice_length, word_in_slice}
use Rattle.offsets.specs.Head.{is_next, multiples, strides_list}
use Rattle.column.specs.Kind.{L}
use Rattle.column.specs.Run.{run_takes, word_run}
use Rattle.offsets.specs.Strides.{Grown, Own, stride, front, bounds, strides_format, strides_takes, bounds_at}
use Rattle.column.proofs.ColumnLemmas.{element_at_lem, list_all_append}
use Rattle.column.proofs.WordLemmas.{is_word}
use Rattle.column.proofs.SliceAt.{slice_length_right, word_in_slice_right}
use Rattle.offsets.specs.StridesLaws.{product, split, strides_held, front-positive, front_more, front_ends, front-ends-bounds, length-multiples, get_or-multiples}

-- what a head and bounds stand for
module _ (s n : ℕ) (bs : List ℕ) where
  pub length-strides : length (strides_list s n bs) ≡ n + length bs
  length-strides = omega (arith, length-append (multiples s n) bs, length-multiples s n)

  pub element-head : (i : ℕ) → i < n → Ok (s * (i + 1)) ≡ element (strides_list s n bs) i
  element-head i h =
      let at : get_or (strides_list s n bs) i 0 ≡ s * (i + 1) =
      get_or_append_left (multiples s n) bs 0 i (omega (arith, length-multiples s n)) ∙ get_or-multiples s n i 0 h in
      ap Ok (sym at) ∙ sym (element_at_lem (strides_list s n bs) i 0 (omega (arith, length-strides)))

element-append : {E : Type 0} (xs ys : List E) (i : ℕ) → length xs ≤ i → element (xs ++ ys) i ≡ element ys (i - length xs)
element-append [] ys i h = rw sub-zero
element-append (x ∷ xs) ys zero h = absurd (omega arith)
element-append (x ∷ xs) ys (suc i) h = rw suc-sub-suc (element-append xs ys i (omega arith))

pub element-bounds : (s n : ℕ) (bs : List ℕ) (i : ℕ) → n ≤ i → element bs (i - n) ≡ element (strides_list s n bs) i
element-bounds s n bs i h =
    let e = length-multiples s n in
    sym (element-append (multiples s n) bs i (omega arith) ∙ ap (λ m. element bs (i - m)) e)

front_nil : (xs : List ℕ) → front xs ≡ 0 → xs ≡ []
front_nil [] h = refl
front_nil (x ∷ xs) h = absurd (omega (arith, front-positive x xs))

own_front : (s n : ℕ) (bs : List ℕ) → front (strides_list s n bs) ≡ n → (n ≡ 0 → s ≡ 0) → Own (strides_list s n bs) s n bs
own_front s zero bs f z =
    let e = front_nil bs f in
    (ap stride e ∙ sym (z refl), f, ap (λ m. drop m bs) f)
own_front s (suc n) bs f z =
    (mul-one s, f, ap (λ m. drop m (strides_list s (suc n) bs)) f ∙ drop_at (multiples s (suc n)) bs (suc n) (length-multiples s (suc n)))

-- whether a number is the next multiple
module _ (s n x : ℕ) where
  abbrev test : Bool → Bool
  test b = elim (cond b (Some (s * (n + 1))) None) [ Some m ↦ eqb m x | None ↦ false ]

  abbrev fitting : Bool
  fitting = ltb (n + 1) (2 ^ 64) && ltb (s * (n + 1)) (2 ^ 64)

  next_multiple : is_next s n x ≡ true → x ≡ s * (n + 1)
  next_multiple h = go fitting h
    where
      go : (b : Bool) → test b ≡ true → x ≡ s * (n + 1)
      go true e = sym (eqb-true (s * (n + 1)) x e)
      go false e = cc

  no_multiple : is_next s n x ≡ false → n + 1 < 2 ^ 64 → x < 2 ^ 64 → x ≡ s * (n + 1) → ⊥
  no_multiple h l f m = go fitting h (and_from _ _ (lt-ltb (n + 1) (2 ^ 64) l) (lt-ltb (s * (n + 1)) (2 ^ 64) (omega arith)))
    where
      go : (b : Bool) → test b ≡ false → b ≡ true → ⊥
      go true e t = eqb-false (s * (n + 1)) x e (sym m)
      go false e t = cc

module _ (c : Strides) where
  abbrev pub run : List ℕ
  run = take c.bounds.len c.bounds.cells.now

  abbrev pub list : List ℕ
  list = strides_list c.head.stride c.head.length run

  pub length_run : length run ≡ c.bounds.len
  length_run = length-take-le c.bounds.len c.bounds.cells.now c.bounds.within

  -- a column's head and bounds are its list's own
  own : Own list c.head.stride c.head.length run
  own = own_front c.head.stride c.head.length run c.longest c.cleared

  pub length-list : length list ≡ c.head.length + c.bounds.len
  length-list = length-strides c.head.stride c.head.length run ∙ ap (λ n. c.head.length + n) length_run

  -- its slices behind the head's
  module _ (k : ℕ) where
    abbrev head_slice : List Slice
    head_slice = of_words (stride list ∷ front list ∷ []) ∷ []

    pub bounds-length : (k ≡ 0 → ⊥) → slice_length (word_run.writing run) (k - 1) ≡ slice_length ((strides_format word_run).writing list) k
    bounds-length z =
        ap (λ bs. slice_length (word_run.writing bs) (k - 1)) (sym own.2)
        ∙ sym (slice_length_right head_slice (word_run.writing (bounds list)) k (omega arith) (λ p. omega arith))

    pub bounds-word : (i : ℕ) → 0 < k → word_in_slice (word_run.writing run) (k - 1) i ≡ word_in_slice ((strides_format word_run).writing list) k i
    bounds-word i z =
        ap (λ bs. word_in_slice (word_run.writing bs) (k - 1) i) (sym own.2)
        ∙ sym (word_in_slice_right head_slice (word_run.writing (bounds list)) k i (omega arith) (λ p. omega arith))

  -- one more element
  module _ (x : ℕ) (z : c.head.length ≡ 0 → ⊥) where
    abbrev continuing : Bool
    continuing = eqb c.bounds.len 0 && is_next c.head.stride c.head.length x

    some : 0 < length list
    some = omega (arith, length-list)

    length_bounds : length (bounds list) ≡ c.bounds.len
    length_bounds = ap length own.2 ∙ length_run

    pub own_more : true ≡ continuing → Own (list ++ x ∷ []) c.head.stride (c.head.length + 1) run
    own_more e =
        let p = and_parts (eqb c.bounds.len 0) (is_next c.head.stride c.head.length x) (sym e) in
        let none : length (bounds list) ≡ 0 = length_bounds ∙ eqb-true c.bounds.len 0 p.0 in
        let t = front_more list x some none (next_multiple c.head.stride c.head.length x p.1 ∙ sym (ap₂ (λ s n. s * (n + 1)) own.0 own.1)) in
        (t.0 ∙ own.0, t.1 ∙ ap (λ n. n + 1) own.1, t.2 ∙ sym (nil_from_length (bounds list) none) ∙ own.2)

    abbrev Same : Type 0
    Same = Own (list ++ x ∷ []) (stride list) (front list) (bounds list ++ x ∷ [])

    pub own_ends : false ≡ continuing → x < 2 ^ 64 → Own (list ++ x ∷ []) c.head.stride c.head.length (run ++ x ∷ [])
    own_ends e f =
        let t = ⊎_elim bounded last (and_cases (eqb c.bounds.len 0) (is_next c.head.stride c.head.length x) (sym e)) in
        (t.0 ∙ own.0, t.1 ∙ own.1, t.2 ∙ ap (λ bs. bs ++ x ∷ []) own.2)
      where
        bounded : eqb c.bounds.len 0 ≡ false → Same
        bounded b = let k = eqb-false c.bounds.len 0 b in front-ends-bounds list x (omega (arith, length_bounds))

        last : is_next c.head.stride c.head.length x ≡ false → Same
        last n = front_ends list x some (λ q. no_multiple c.head.stride c.head.length x n (omega (arith, c.short)) f (q ∙ ap₂ (λ s m. s * (m + 1)) own.0 own.1))

  -- a head that stands for one more
  module _ (x : ℕ) (h : Head) (t : Own (list ++ x ∷ []) h.stride h.length run) where
    pub grown_list : strides_list h.stride h.length run ≡ list ++ x ∷ []
    grown_list = sym (split (list ++ x ∷ []) ∙ ap₂ ◌++◌ (ap₂ multiples t.0 t.1) t.2)

    pub grown_longest : front (strides_list h.stride h.length run) ≡ h.length
    grown_longest = ap front grown_list ∙ t.1

    -- the head's numbers fit a word, since every element does
    pub grown_product : x < 2 ^ 64 → h.stride * h.length < 2 ^ 64
    grown_product f =
        let words = strides_held c.head.stride c.head.length c.bounds.len c.bounds.cells.now c.product c.bounds.fitting c.short in
        let p = product (list ++ x ∷ []) (list_all_append is_word list (x ∷ []) words.0 (and_from (is_word x) true (lt-ltb x (2 ^ 64) f) refl)) in
        omega (arith, p, ap₂ (λ s n. s * n) t.0 t.1)

    pub grown_cleared : h.length ≡ 0 → h.stride ≡ 0
    grown_cleared z = sym t.0 ∙ ap stride (front_nil (list ++ x ∷ []) (t.1 ∙ z))

    pub grown_length : h.length + c.bounds.len ≡ length list + 1
    grown_length = omega (arith, ap length grown_list, length-strides h.stride h.length run, length_run, length_push list x)

    pub grown_taken : (a : Areas) → length list < L → strides_takes a list x ≡ true
    grown_taken a l =
        and_from _ _ (lt-ltb (length list) L l) (or_left _ (run_takes a (bounds list) x) (eq-eqb _ _ (ap length (t.2 ∙ sym own.2))))

  pub some_taken : (a : Areas) (x : ℕ) (o : Option Head) → Grown c.head.stride c.head.length run x o → length list < L → true ≡ is_some o → true ≡ strides_takes a list x
  some_taken a x (Some h) t l e = sym (grown_taken x h t a l)
  some_taken a x None t l e = cc

-- an element with the one before it
before : (xs : List ℕ) (i x : ℕ) → Ok x ≡ element xs i → (i ≡ 0 → ⊥) → element xs (i - 1) ≡ Ok (get_or (0 ∷ xs) i 0)
before [] i x e z = cc
before (y ∷ xs) zero x e z = absurd (z refl)
before (y ∷ xs) (suc zero) x e z = refl
before (y ∷ xs) (suc (suc i)) x e z = let h = simp unary_clauses at (before xs (suc i) x e (λ p. omega arith)) in simp unary_clauses h

module _ (xs : List ℕ) (i x : ℕ) (e : Ok x ≡ element xs i) (z : i ≡ 0 → ⊥) where
  pub bounds_at_lem : (y : ℕ) → Ok y ≡ element xs (i - 1) → Ok (y, x) ≡ bounds_at xs i
  bounds_at_lem y d = let b = before xs i x e z in rw (← e, bounds_at) cc

  pub never_refused : {A : Type 0} (f : Fault) → Err f ≡ element xs (i - 1) → A
  never_refused f d = let b = before xs i x e z in cc
