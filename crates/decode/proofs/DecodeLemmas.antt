-- Questions that were passed, and where the slices of what passed them stand.
use Rattle.std.proofs.Common.{◌≡◌, ℕ, zero, suc, ◌+◌, ◌-◌, ◌*◌, ◌/◌, ◌%◌, ◌<◌, ◌≤◌, Bool, true, false, ◌&&◌, eqb, leb, List, [], ◌∷◌, length, get_or, take, drop, Some, None, Ok, Err, Option, sym, refl, ap, ◌∙◌, add-one, arith, length-drop, length-take, get_or-drop, get_or-take}
use Rattle.std.specs.Option.{ok_or}
use Rattle.std.proofs.lemmas.List.{at_drop_more}
use Rattle.std.proofs.lemmas.Bool.{leb-true, eqb-true, le-leb, le-ltb, lt-leb, lt-ltb, eq-eqb, and_parts}
use Rattle.area.specs.Fault.{refuse}
use Rattle.area.specs.Slice.{words_for, round_up}
use Rattle.area.specs.declared.fault.Fault.{Fault}
use Rattle.area.specs.declared.fault.Refusal.{Refusal}
use Rattle.area.specs.declared.fault.Refusal.TheVariants.{ByteLength, NoWord, FirstWord, IndexCut, EndOutside, EndBeforeStart, OutOfRange}
use Rattle.std.specs.List.{slice_get}
use Rattle.storage.proofs.StoreLemmas.{slice_get_missing, slice_get_found, slice_get_window}
use Rattle.column.specs.Column.{element}
use Rattle.column.specs.Kind.{CAP, slot}
use Rattle.column.proofs.ColumnLemmas.{element_past}
use Rattle.decode.specs.declared.span.Span.{Span}
use Rattle.decode.specs.Decode.{Inside, ask, count_stands, ends_fault, first, index_answer, index_fault, or_fault, slice_at, slice_ends, slice_in, slices_of, slices_to, span_answer, span_of, structure_fault}

-- what an answer says of its questions
module _ {X : Type 0} where
  pub or_ok : (p : Option Fault) (x y : X) → or_fault p x ≡ Ok y → (p ≡ None) × (y ≡ x)
  or_ok None x y h = (refl, cc)
  or_ok (Some f) x y h = cc

  pub or_err : (p : Option Fault) (x : X) (e : Fault) → or_fault p x ≡ Err e → p ≡ Some e
  or_err None x e h = cc
  or_err (Some f) x e h = cc

-- one question: passed with all after it, or refused whatever is asked after it
pub ask-passed : (b : Bool) (q : Refusal) (k : ℕ) (next : Option Fault) → ask b q k next ≡ None → (b ≡ true) × (next ≡ None)
ask-passed true q k next h = (refl, h)
ask-passed false q k next h = cc

-- questions 1 to 4, by their tests
abbrev four : Bool → Bool → Bool → Bool → Option Fault → Option Fault
four a b c d next = ask a ByteLength 0 (ask b NoWord 0 (ask c FirstWord 0 (ask d IndexCut 0 next)))

four_refused : (a b c d : Bool) (next : Option Fault) (e : Fault) → four a b c d None ≡ Some e → four a b c d next ≡ Some e
four_refused false b c d next e h = h
four_refused true false c d next e h = h
four_refused true true false d next e h = h
four_refused true true true false next e h = h
four_refused true true true true next e h = cc

-- an index that passes questions 1 to 4
pub record Index (ws : List ℕ) : Type 0 where
  pub short : 8 * length ws ≤ 4294967288
  pub some : 1 ≤ length ws
  pub least : 8 ≤ first ws
  pub whole : first ws % 8 ≡ 0
  pub room : first ws / 8 ≤ length ws

module _ (ws : List ℕ) where
  pub index-passed : (next : Option Fault) → index_fault ws next ≡ None → Index ws × (next ≡ None)
  index-passed next h =
      let a = ask-passed _ _ _ _ h in
      let b = ask-passed _ _ _ _ a.1 in
      let c = ask-passed _ _ _ _ b.1 in
      let d = ask-passed _ _ _ _ c.1 in
      let w = and_parts (leb 8 (first ws)) (eqb (first ws % 8) 0) c.0 in (
        record {
          short = leb-true _ _ a.0;
          some = leb-true _ _ b.0;
          least = leb-true _ _ w.0;
          whole = eqb-true _ _ w.1;
          room = leb-true _ _ d.0;
        },
        d.1,
      )

  pub index-asked : (next : Option Fault) → Index ws → index_fault ws next ≡ next
  index-asked next i =
      rw (
        le-leb (8 * length ws) 4294967288 i.short,
        le-leb 1 (length ws) i.some,
        le-leb 8 (first ws) i.least,
        eq-eqb (first ws % 8) 0 i.whole,
        le-leb (first ws / 8) (length ws) i.room,
      )

  pub index_refused : (next : Option Fault) (e : Fault) → index_answer ws ≡ Err e → index_fault ws next ≡ Some e
  index_refused next e h =
      four_refused (leb (8 * length ws) 4294967288) (leb 1 (length ws)) (leb 8 (first ws) && eqb (first ws % 8) 0) (leb (first ws / 8) (length ws)) next e
      (or_err (index_fault ws None) (first ws / 8 - 1) e h)

  pub index_counted : (n : ℕ) → index_answer ws ≡ Ok n → Index ws × (n ≡ first ws / 8 - 1)
  index_counted n h = let p = or_ok (index_fault ws None) (first ws / 8 - 1) n h in ((index-passed None p.0).0, p.1)

-- where slices stand whose ends pass questions 6 and 7
rounded : (e : ℕ) (es : List ℕ) (j : ℕ) → words_for (get_or (round_up e ∷ es) j 0) ≡ words_for (get_or (e ∷ es) j 0)
rounded e es zero = omega arith
rounded e es (suc j) = refl

pub length-slices_to : (ws : List ℕ) (p : ℕ) (es : List ℕ) → length (slices_to ws p es) ≡ length es
length-slices_to ws p [] = refl
length-slices_to ws p (e ∷ es) = ap suc (length-slices_to ws (round_up e) es)

pub slot-slices_to : (ws : List ℕ) (p : ℕ) (es : List ℕ) (j : ℕ) → p % 8 ≡ 0 → j < length es → slice_at ws (words_for (get_or (p ∷ es) j 0)) (get_or es j 0 - round_up (get_or (p ∷ es) j 0)) ≡ slot (slices_to ws p es) j
slot-slices_to ws p [] j m h = absurd (omega arith)
slot-slices_to ws p (e ∷ es) zero m h =
    let a : words_for p ≡ p / 8 = omega arith in
    let b : e - round_up p ≡ e - p = omega arith in
    rw (b, a)
slot-slices_to ws p (e ∷ es) (suc j) m h =
    let r = rounded e es j in
    rw (sym r) (slot-slices_to ws (round_up e) es j (omega arith) (omega arith))

pub ends-passed : (t k p e : ℕ) (es : List ℕ) → ends_fault t k p (e ∷ es) ≡ None → (e ≤ t) × (p ≤ e) × (ends_fault t (suc k) (round_up e) es ≡ None)
ends-passed t k p e es f =
    let a = ask-passed (leb e t) EndOutside k _ f in
    let b = ask-passed (leb p e) EndBeforeStart k _ a.1 in
    (leb-true e t a.0, leb-true p e b.0, b.1)

pub ends-within : (t k p : ℕ) (es : List ℕ) (j : ℕ) → ends_fault t k p es ≡ None → p % 8 ≡ 0 → j < length es → (round_up (get_or (p ∷ es) j 0) ≤ get_or es j 0) × (get_or es j 0 ≤ t)
ends-within t k p [] j f m h = absurd (omega arith)
ends-within t k p (e ∷ es) zero f m h = let a = ends-passed t k p e es f in (omega arith, a.0)
ends-within t k p (e ∷ es) (suc j) f m h =
    let a = ends-passed t k p e es f in
    let i = ends-within t (suc k) (round_up e) es j a.2 (omega arith) (omega arith) in
    (omega (arith, rounded e es j), i.1)

-- the first n words after word 0
front_at : (ws : List ℕ) (n k : ℕ) → k < n → get_or (take n (drop 1 ws)) k 0 ≡ get_or ws (k + 1) 0
front_at ws n k h = get_or-take n (drop 1 ws) k 0 h ∙ (get_or-drop 1 ws k 0 ∙ ap (λ j. get_or ws j 0) (omega arith))

-- the ends are asked one after the other: word e as number k, after those before it were passed
module _ (ws : List ℕ) (n : ℕ) (l : n < length ws) (k e p : ℕ) (h : k < n) (x : Option ℕ) (there : x ≡ slice_get ws (k + 1)) (is : x ≡ Some e) where
  abbrev ends : List ℕ
  ends = take n (drop 1 ws)

  module _ (before : ends_fault (8 * length ws) k p (drop k ends) ≡ ends_fault (8 * length ws) 0 (8 * suc n) ends) where
    next_end : ends_fault (8 * length ws) 0 (8 * suc n) ends ≡ ends_fault (8 * length ws) k p (e ∷ drop (k + 1) ends)
    next_end =
        sym before ∙ at_drop_more (ends_fault (8 * length ws) k p) ends k 0 (rw (length-take, length-drop) (omega arith))
        ∙ ap (λ v. ends_fault (8 * length ws) k p (v ∷ drop (k + 1) ends)) (front_at ws n k h ∙ (slice_get_found ws (k + 1) e (sym is ∙ there)).1)

    pub ends_outside : 8 * length ws < e → ends_fault (8 * length ws) 0 (8 * suc n) ends ≡ Some (refuse EndOutside k)
    ends_outside m = next_end ∙ rw (lt-leb e (8 * length ws) m)

    pub ends_before : e ≤ 8 * length ws → e < p → ends_fault (8 * length ws) 0 (8 * suc n) ends ≡ Some (refuse EndBeforeStart k)
    ends_before m b = next_end ∙ rw (le-leb e (8 * length ws) m, lt-leb p e b)

    pub ends_turn : (q : ℕ) → e ≤ 8 * length ws → p ≤ e → q ≡ round_up e → ends_fault (8 * length ws) (k + 1) q (drop (k + 1) ends) ≡ ends_fault (8 * length ws) 0 (8 * suc n) ends
    ends_turn q m b r = rw (r, add-one) (sym (next_end ∙ rw (le-leb e (8 * length ws) m, le-leb p e b, add-one)))

-- words that pass the questions
pub asked-passed : (m : Option ℕ) (ws : List ℕ) → structure_fault m ws ≡ None → Index ws × ((count_stands m (first ws / 8 - 1) ≡ true) × (ends_fault (8 * length ws) 0 (first ws) (slice_ends ws) ≡ None))
asked-passed m ws h = let i = index-passed ws _ h in (i.0, ask-passed _ _ _ _ i.1)

pub asked_uncounted : (m : Option ℕ) (ws : List ℕ) → structure_fault m ws ≡ None → structure_fault None ws ≡ None
asked_uncounted m ws h = let p = asked-passed m ws h in index-asked ws _ p.0 ∙ p.1.1

module _ (ws : List ℕ) (h : structure_fault None ws ≡ None) where
  pub count_slices : length (slices_of ws) ≡ first ws / 8 - 1
  count_slices =
      let i = (asked-passed None ws h).0 in
      length-slices_to ws (first ws) (slice_ends ws) ∙ rw (length-take, length-drop) (omega arith)

  pub slices_under : length (slices_of ws) < length ws
  slices_under = let i = (asked-passed None ws h).0 in omega (arith, count_slices)

  pub span_past : (k : ℕ) → length (slices_of ws) ≤ k → span_answer ws k ≡ Err (refuse OutOfRange 0)
  span_past k m = rw (le-ltb k (length (slices_of ws)) m)

  module _ (k : ℕ) (l : k < length (slices_of ws)) where
    place : k < length (slice_ends ws)
    place = omega (arith, length-slices_to ws (first ws) (slice_ends ws))

    start : (j : ℕ) → j ≤ length (slices_of ws) → get_or (first ws ∷ slice_ends ws) j 0 ≡ get_or ws j 0
    start zero m = refl
    start (suc j) m = front_at ws (first ws / 8 - 1) j (omega (arith, count_slices)) ∙ ap (λ n. get_or ws n 0) (add-one j)

    end : get_or (slice_ends ws) k 0 ≡ get_or ws (suc k) 0
    end = start (suc k) (omega arith)

    pub ends-between : (round_up (get_or ws k 0) ≤ get_or ws (suc k) 0) × (get_or ws (suc k) 0 ≤ 8 * length ws)
    ends-between =
        let a = asked-passed None ws h in
        rw (start k (omega arith), end) at (ends-within (8 * length ws) 0 (first ws) (slice_ends ws) k a.1.1 a.0.whole place)

    pub span_inside : Inside ws (span_of ws k)
    span_inside = let i = (asked-passed None ws h).0 in let e = ends-between in record { within = omega arith; short = omega arith }

    -- the place as it is read from words k and k + 1 of the index
    pub never_none : (j : ℕ) → j ≤ k + 1 → (x : Option ℕ) → x ≡ slice_get ws j → x ≡ None → ⊥
    never_none j m x there is = let u = slices_under in omega (arith, slice_get_missing ws j (sym is ∙ there))

    module _ (a b : ℕ) (x y : Option ℕ) (lower : x ≡ slice_get ws k) (upper : y ≡ slice_get ws (k + 1)) (p : x ≡ Some a) (q : y ≡ Some b) where
      words_read : (get_or ws k 0 ≡ a) × (get_or ws (suc k) 0 ≡ b)
      words_read = ((slice_get_found ws k a (sym p ∙ lower)).1, rw add-one at (slice_get_found ws (k + 1) b (sym q ∙ upper)).1)

      pub span_read : (round_up a ≤ b) × (b ≤ 8 * CAP)
      span_read = let i = (asked-passed None ws h).0 in let r = words_read in let e = ends-between in (omega arith, omega arith)

      pub span_answer_lem : (n m : ℕ) → n ≡ words_for a → m ≡ b - round_up a → Ok (record { from = n; bytes = m }) ≡ span_answer ws k
      span_answer_lem n m f g = let r = words_read in rw (lt-ltb k (length (slices_of ws)) l, f, g, r.0, r.1)

    pub span_slice : slice_in ws (span_of ws k) ≡ slot (slices_of ws) k
    span_slice =
        let a = asked-passed None ws h in
        rw (start k (omega arith), end) at (slot-slices_to ws (first ws) (slice_ends ws) k a.0.whole place)

element-slice_get : (ws : List ℕ) (i : ℕ) → ok_or (slice_get ws i) (refuse OutOfRange 0) ≡ element ws i
element-slice_get [] i = refl
element-slice_get (w ∷ ws) zero = refl
element-slice_get (w ∷ ws) (suc i) = element-slice_get ws i

-- the words of a slice that lies inside
module _ (ws : List ℕ) (s : Span) (i : Inside ws s) where
  pub length_span : length (slice_in ws s).words ≡ words_for s.bytes
  length_span = rw (length-take, length-drop) (omega arith)

  pub element_span : (k : ℕ) → k < words_for s.bytes → ok_or (slice_get ws (s.from + k)) (refuse OutOfRange 0) ≡ element (slice_in ws s).words k
  element_span k h =
      ap (λ o. ok_or o (refuse OutOfRange 0)) (sym (slice_get_window ws s.from (words_for s.bytes) k h (omega arith)))
      ∙ element-slice_get (slice_in ws s).words k

  pub element_after : (k : ℕ) → words_for s.bytes ≤ k → Err (refuse OutOfRange 0) ≡ element (slice_in ws s).words k
  element_after k h = sym (element_past (slice_in ws s).words k (omega (arith, length_span)))
