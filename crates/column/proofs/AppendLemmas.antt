-- How far an append has come: the elements that it has put after a list, and whether the next one is taken.
use Rattle.std.proofs.Common.{◌≡◌, ℕ, zero, suc, ◌+◌, ◌-◌, ◌<◌, ◌≤◌, min, Bool, true, false, cond, not, List, [], ◌∷◌, ◌++◌, length, take, drop, is_err as is_refusal, is_ok, Ok, Err, Result, sym, refl, ap, ◌∙◌, append_assoc, append-nil, add-sub_of_le, zero-add, arith}
use native.Mathlib.Nat.{sub_self}
use Rattle.std.specs.List.{between}
use Rattle.std.proofs.lemmas.List.Edits.{length-between}
use Rattle.std.proofs.lemmas.List.{drop_more, take_all, take_more}
use Rattle.std.proofs.lemmas.Bool.{cond_both, eq-eqb, le-leb, ne_eqb, not-false, not-true}
use Rattle.area.specs.Fault.{refuse}
use Rattle.area.specs.declared.fault.Fault.{Fault}
use Rattle.area.specs.declared.fault.Refusal.TheVariants.{NotTaken}
use Rattle.column.proofs.ColumnLemmas.{element_found}
use Rattle.column.specs.Column.{Areas, element, push_answer, pushed, taken, range_answer, range_appended}

module _ {E : Type 0} where
  element-take : (n : ℕ) (xs : List E) (i : ℕ) → i < n → element (take n xs) i ≡ element xs i
  element-take zero xs i h = absurd (omega arith)
  element-take (suc n) [] i h = refl
  element-take (suc n) (x ∷ xs) zero h = refl
  element-take (suc n) (x ∷ xs) (suc i) h = element-take n xs i (omega arith)

  element-drop : (n : ℕ) (xs : List E) (i : ℕ) → element (drop n xs) i ≡ element xs (n + i)
  element-drop zero xs i = rw zero-add
  element-drop (suc n) [] i = refl
  element-drop (suc n) (x ∷ xs) i = let e : suc n + i ≡ suc (n + i) = omega arith in rw e (element-drop n xs i)

  element-between : (xs : List E) (a b i : ℕ) → a ≤ i → i < b → element (between a b xs) (i - a) ≡ element xs i
  element-between xs a b i h l = element-take (b - a) (drop a xs) (i - a) (omega arith) ∙ element-drop a xs (i - a) ∙ ap (element xs) (add-sub_of_le h)

first_taken : (b : Bool) (n m : ℕ) → suc n ≤ cond b (suc m) 0 → (b ≡ true) × (n ≤ m)
first_taken true n m h = (refl, omega arith)
first_taken false n m h = absurd (omega arith)

is_err : (b : Bool) → is_refusal (push_answer b) ≡ not b
is_err true = refl
is_err false = refl

-- what is an answer is no refusal
pub not_refused : {X A : Type 0} (r : Result X A) → is_ok r ≡ true → is_refusal r ≡ false
not_refused (Ok x) h = refl
not_refused (Err e) h = cc

module _ {E : Type 0} (t : List E → E → Bool) where
  taken_le : (xs ys : List E) → taken t xs ys ≤ length ys
  taken_le xs [] = omega arith
  taken_le xs (y ∷ ys) = cond_both (t xs y) (suc (taken t (xs ++ y ∷ []) ys)) 0 (λ n. n ≤ suc (length ys)) (λ e. omega (arith, taken_le (xs ++ y ∷ []) ys)) (λ e. omega arith)

  -- after the first n, if these are taken
  taken-rest : (xs ys : List E) (n : ℕ) → n ≤ taken t xs ys → taken t xs ys ≡ n + taken t (xs ++ take n ys) (drop n ys)
  taken-rest xs ys zero h = rw (zero-add, append-nil)
  taken-rest xs [] (suc n) h = absurd (omega arith)
  taken-rest xs (y ∷ ys) (suc n) h =
      let p = first_taken (t xs y) n (taken t (xs ++ y ∷ []) ys) h in
      let q = rw append_assoc at (taken-rest (xs ++ y ∷ []) ys n p.1) in
      rw p.0 (omega (arith, q))

  taken_next : (xs ys : List E) (n : ℕ) (y : E) → element ys n ≡ Ok y → n ≤ taken t xs ys → taken t xs ys ≡ n + cond (t (xs ++ take n ys) y) (suc (taken t ((xs ++ take n ys) ++ y ∷ []) (drop (n + 1) ys))) 0
  taken_next xs ys n y e h =
      let q = element_found ys n y y (sym e) in
      taken-rest xs ys n h ∙ rw (drop_more ys n y q.0, q.1)

-- The list zs is xs with the elements at places a to i - 1 of a source put after it, each of them taken. No place is
-- at or past b.
abbrev pub Added : {E : Type 0} → (List E → E → Bool) → List E → List E → ℕ → ℕ → ℕ → List E → Type 0
Added t xs src a b i zs = (zs ≡ xs ++ take (i - a) (between a b src)) × (min (i - a) (length (between a b src)) ≤ taken t xs (between a b src))

module _ {E : Type 0} (f : Areas → List E → E → Bool) (A : Areas) (xs src : List E) (a b : ℕ) where
  pub added_none : Added (f A) xs src a b a xs
  added_none = rw sub_self (sym (append-nil xs), omega arith)

  module _ (l : b ≤ length src) (i : ℕ) (zs : List E) (h : a ≤ i) (p : Added (f A) xs src a b i zs) where
    -- a push of the next one, to the list zs and in the areas A, that answers r and leaves the list us
    module _ (m : i < b) (y : E) (e : element src i ≡ Ok y) (B : Areas) (s : B ≡ A) (r : Result (Unit {0}) Fault) (us : List E) (q : r ≡ push_answer (f B zs y)) (u : us ≡ pushed (f B zs y) zs y) where
      there : element (between a b src) (i - a) ≡ Ok y
      there = element-between src a b i h m ∙ e

      next : taken (f A) xs (between a b src) ≡ i - a + cond (f A zs y) (suc (taken (f A) (zs ++ y ∷ []) (drop (i - a + 1) (between a b src)))) 0
      next = rw p.0 (taken_next (f A) xs (between a b src) (i - a) y there (omega (arith, length-between src a b l)))

      answered : is_refusal r ≡ not (f A zs y)
      answered = rw (q, s) (is_err (f A zs y))

      pub added_more : is_refusal r ≡ false → Added (f A) xs src a b (i + 1) us
      added_more k =
          let w : f A zs y ≡ true = not-false (f A zs y) (sym answered ∙ k) in
          let d : i + 1 - a ≡ i - a + 1 = omega arith in
          let o = element_found (between a b src) (i - a) y y (sym there) in
          rw d (
            rw (take_more (between a b src) (i - a) y o.0, o.1, ← append_assoc, ← p.0) (u ∙ rw (s, w)),
            omega (arith, rw w at next),
          )

      pub added_stopped : is_refusal r ≡ true → (Err (refuse NotTaken (i - a)) ≡ range_answer (f A) xs src a b) × (us ≡ range_appended (f A) xs src a b)
      added_stopped k =
          let w : f A zs y ≡ false = not-true (f A zs y) (sym answered ∙ k) in
          let n : taken (f A) xs (between a b src) ≡ i - a = omega (arith, rw w at next) in
          let o = element_found (between a b src) (i - a) y y (sym there) in
          rw (le-leb b (length src) l, n) (
            rw (ne_eqb (i - a) (length (between a b src)) (λ g. omega (arith, o.0))),
            u ∙ rw (s, w) p.0,
          )

    pub added_all : b ≤ i → (Ok tt ≡ range_answer (f A) xs src a b) × (zs ≡ range_appended (f A) xs src a b)
    added_all m =
        let n : taken (f A) xs (between a b src) ≡ length (between a b src) = omega (arith, taken_le (f A) xs (between a b src), length-between src a b l) in
        rw (le-leb b (length src) l, n) (
          rw (eq-eqb (length (between a b src)) (length (between a b src)) refl),
          rw (take_all (length (between a b src)) (between a b src) (omega arith)) (rw (take_all (i - a) (between a b src) (omega (arith, length-between src a b l))) at p.0),
        )
