-- Places of two lists of one length side by side, and a push on both.
use Rattle.std.proofs.Common.{◌≡◌, ℕ, zero, suc, Bool, true, false, ◌&&◌, List, [], ◌∷◌, ◌++◌, length, zip, Ok, Err, Result, sym, refl, ap, ◌∙◌, ap₂, arith}
use Rattle.std.proofs.lemmas.List.{length_push}
use Rattle.std.proofs.lemmas.Slice.Zip.{length-zip}
use Rattle.std.proofs.lemmas.Bool.{and_parts, eq-eqb}
use Rattle.area.specs.declared.fault.Fault.{Fault}
use Rattle.column.specs.Column.{Areas, beside, element, push_answer, pushed}
use Rattle.tuple.specs.Pair.{even_list, pair_takes}
use Rattle.tuple.specs.PairLaws.{parts_zip, same_length, still_level}

-- a push that is taken is not refused
pub not_refused : (b : Bool) (r : Result (Unit {0}) Fault) (e : Fault) → b ≡ true → r ≡ push_answer b → r ≡ Err e → ⊥
not_refused true r e h p q = let z : ◌≡◌ {A = ℕ} 0 1 = cc in omega arith
not_refused false r e h p q = let z : ◌≡◌ {A = ℕ} 0 1 = cc in omega arith

module _ {A B : Type 0} where
  pub zip-push : (ls : List A) (rs : List B) (l : A) (r : B) → length ls ≡ length rs → zip (ls ++ l ∷ []) (rs ++ r ∷ []) ≡ zip ls rs ++ (l, r) ∷ []
  zip-push [] [] l r h = refl
  zip-push [] (y ∷ rs) l r h = absurd (omega arith)
  zip-push (x ∷ ls) [] l r h = absurd (omega arith)
  zip-push (x ∷ ls) (y ∷ rs) l r h = ap (λ ts. (x, y) ∷ ts) (zip-push ls rs l r (omega arith))

  -- the answer to two, of which the first refusal counts
  abbrev pub both : Result A Fault → Result B Fault → Result (A × B) Fault
  both (Ok l) (Ok r) = Ok (l, r)
  both (Ok l) (Err e) = Err e
  both (Err e) r = Err e

  pub element-zip : (ls : List A) (rs : List B) (i : ℕ) → length ls ≡ length rs → element (zip ls rs) i ≡ both (element ls i) (element rs i)
  element-zip [] [] i h = refl
  element-zip [] (r ∷ rs) i h = refl
  element-zip (l ∷ ls) [] i h = absurd (omega arith)
  element-zip (l ∷ ls) (r ∷ rs) zero h = refl
  element-zip (l ∷ ls) (r ∷ rs) (suc i) h = element-zip ls rs i (omega arith)

  -- a pair takes what both sides take
  pub takes_both : (f : Areas → List A → A → Bool) (g : Areas → List B → B → Bool) (a b : Areas) (ls : List A) (rs : List B) (x : A × B) → length ls ≡ length rs → pair_takes f g (beside a b) (zip ls rs) x ≡ f a ls x.0 && g b rs x.1
  takes_both f g a b ls rs x h = let p = parts_zip ls rs h in rw (p.0, p.1)

  pub both_taken : (f : Areas → List A → A → Bool) (g : Areas → List B → B → Bool) (a b : Areas) (ls : List A) (rs : List B) (x : A × B) → length ls ≡ length rs → true ≡ pair_takes f g (beside a b) (zip ls rs) x → (f a ls x.0 ≡ true) × (g b rs x.1 ≡ true)
  both_taken f g a b ls rs x h k = and_parts (f a ls x.0) (g b rs x.1) (sym (k ∙ takes_both f g a b ls rs x h))

  -- both sides after a push that both take
  pub both_pushed : (f : Areas → List A → A → Bool) (g : Areas → List B → B → Bool) (a b : Areas) (ls : List A) (rs : List B) (x : A × B) → length ls ≡ length rs → true ≡ pair_takes f g (beside a b) (zip ls rs) x → (us : List A) (vs : List B) → us ≡ pushed (f a ls x.0) ls x.0 → vs ≡ pushed (g b rs x.1) rs x.1 → (length us ≡ length vs) × (zip us vs ≡ pushed (pair_takes f g (beside a b) (zip ls rs) x) (zip ls rs) x)
  both_pushed f g a b ls rs x h k us vs p q =
      let t = both_taken f g a b ls rs x h k in
      let l : us ≡ ls ++ x.0 ∷ [] = p ∙ rw t.0 in
      let r : vs ≡ rs ++ x.1 ∷ [] = q ∙ rw t.1 in
      (rw (l, r, length_push ls x.0, length_push rs x.1, h), ap₂ zip l r ∙ zip-push ls rs x.0 x.1 h ∙ ap (λ b. pushed b (zip ls rs) x) k)

-- a pair, whose sides hold as many
module _ {A B : Type 0} (ls : List A) (rs : List B) {m n : ℕ} (p : m ≡ length ls) (q : n ≡ length rs) (e : m ≡ n) where
  pub even_zip : even_list m n ls rs ≡ zip ls rs
  even_zip = rw (eq-eqb m n e)

  pub even_length : length ls ≡ length (even_list m n ls rs)
  even_length = rw (even_zip, length-zip) (omega (arith, p, q, e))

  module _ (f : Areas → List A → A → Bool) (g : Areas → List B → B → Bool) (a b : Areas) (x : A × B) where
    pub even_takes : pair_takes f g (beside a b) (even_list m n ls rs) x ≡ f a ls x.0 && g b rs x.1
    even_takes = rw even_zip (takes_both f g a b ls rs x (same_length ls rs p q e))

    module _ (k : true ≡ pair_takes f g (beside a b) (even_list m n ls rs) x) where
      pub even_taken : (f a ls x.0 ≡ true) × (g b rs x.1 ≡ true)
      even_taken = and_parts (f a ls x.0) (g b rs x.1) (sym (k ∙ even_takes))

      -- both sides after a push that both take, which then hold i and j elements
      pub even_pushed : (us : List A) (vs : List B) {i j : ℕ} → i ≡ length us → j ≡ length vs → us ≡ pushed (f a ls x.0) ls x.0 → vs ≡ pushed (g b rs x.1) rs x.1 → (i ≡ j) × (even_list i j us vs ≡ pushed (pair_takes f g (beside a b) (even_list m n ls rs) x) (even_list m n ls rs) x)
      even_pushed us vs {i} {j} s t u v =
          let l = same_length ls rs p q e in
          let w = both_pushed f g a b ls rs x l (k ∙ even_takes ∙ sym (takes_both f g a b ls rs x l)) us vs u v in
          let h = still_level us vs s t w.0 in
          (h, rw (eq-eqb i j h, even_zip) w.1)
