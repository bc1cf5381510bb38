-- The laws of pairs, from those of the two sides.
use Rattle.std.proofs.Common.{◌≡◌, ℕ, ◌+◌, ◌≤◌, Bool, true, false, cond, ◌&&◌, eqb, List, [], ◌∷◌, ◌++◌, length, take, drop, zip, None, sym, refl, ap, ◌∙◌, ap₂, arith, length-append, length-drop, take-append-drop, length-take-le, take_at, drop_at}
use lib.ListN.{length-map}
use Rattle.std.specs.List.{AllByRecursion, list_all}
use Rattle.std.proofs.ByRecursion.{All-append, All-take, All-drop}
use Rattle.std.proofs.lemmas.Bool.{and_from, and_parts, eq-eqb, eqb-true}
use Rattle.std.proofs.lemmas.Slice.Zip.{firsts-zip, length-zip, seconds-zip}
use Rattle.area.specs.Slice.{Slice, WellFormed, ZeroPadded, weight}
use Rattle.area.proofs.SliceLemmas.{weight-append}
use Rattle.column.specs.Kind.{Accepted, Format, Held, Laws, reads, after, reading_within}
use Rattle.column.specs.KindLemmas.{after-reads, in_bounds, neither}
use Rattle.tuple.specs.Pair.{even_count, even_list, even_slices, firsts, seconds, pair_format}

-- the two lists of a list of tuples
module _ {A B : Type 0} where
  pub zip_parts : (xs : List (A × B)) → zip (firsts xs) (seconds xs) ≡ xs
  zip_parts [] = refl
  zip_parts (x ∷ xs) = ap (λ ys. x ∷ ys) (zip_parts xs)

  pub parts_zip : (ls : List A) (rs : List B) → length ls ≡ length rs → (firsts (zip ls rs) ≡ ls) × (seconds (zip ls rs) ≡ rs)
  parts_zip ls rs h = (firsts-zip ls rs (sym h), seconds-zip ls rs (sym h))

  list_all_side : (f : A → Bool) (g : B → Bool) (xs : List (A × B)) → list_all (λ p. f p.0 && g p.1) xs ≡ (list_all f (firsts xs) && list_all g (seconds xs))
  list_all_side f g [] = refl
  list_all_side f g (x ∷ xs) = rw (list_all_side f g xs) (regrouped (f x.0) (g x.1) (list_all f (firsts xs)) (list_all g (seconds xs)))
    where
      regrouped : (a b c d : Bool) → ((a && b) && (c && d)) ≡ ((a && c) && (b && d))
      regrouped a b c d = grind arith

module _ {A B : Type 0} (F : Format A) (G : Format B) where
  -- accepted slices of a pair are accepted slices of its sides
  pub sides : (ss : List Slice) (xs : List (A × B)) → Accepted (pair_format F G) ss xs → Accepted F (take F.slots ss) (firsts xs) × Accepted G (drop F.slots ss) (seconds xs)
  sides ss xs a =
      let n = neither F.slots (F.sized (take F.slots ss)) (G.sized (drop F.slots ss)) a.fitting in
      let (ls, p, u) = after-reads 0 (F.reading (take F.slots ss)) (λ ls. after F.slots (G.reading (drop F.slots ss)) (λ rs. reading_within (eqb (length ls) (length rs)) (zip ls rs))) xs a.reading in
      let (rs, q, v) = after-reads F.slots (G.reading (drop F.slots ss)) (λ rs. reading_within (eqb (length ls) (length rs)) (zip ls rs)) xs u in
      let b = in_bounds (eqb (length ls) (length rs)) (zip ls rs) xs v in
      let e = parts_zip ls rs (eqb-true (length ls) (length rs) b.0) in (
        record {
          count = length-take-le F.slots ss (omega (arith, a.count));
          formed = All-take WellFormed F.slots ss a.formed;
          fitting = n.0;
          reading = rw (← b.1, e.0) p;
        },
        record {
          count = rw length-drop (omega (arith, a.count));
          formed = All-drop WellFormed F.slots ss a.formed;
          fitting = n.1;
          reading = rw (← b.1, e.1) q;
        },
      )

module _ {A B : Type 0} {f : A → Bool} {g : B → Bool} {F : Format A} {G : Format B} (LF : Laws f F) (LG : Laws g G) where
  -- a list of tuples that fits, by its sides
  held_parts : (xs : List (A × B)) → Held (λ p. f p.0 && g p.1) xs → Held f (firsts xs) × Held g (seconds xs)
  held_parts xs (h, l) =
      let p = and_parts (list_all f (firsts xs)) (list_all g (seconds xs)) (sym (list_all_side f g xs) ∙ h) in
      ((p.0, rw length-map l), (p.1, rw length-map l))

  shape : (xs : List (A × B)) → Held (λ p. f p.0 && g p.1) xs → (length ((pair_format F G).writing xs) ≡ F.slots + G.slots) × AllByRecursion WellFormed ((pair_format F G).writing xs) × AllByRecursion ZeroPadded ((pair_format F G).writing xs)
  shape xs h =
      let p = held_parts xs h in
      let l = LF.shape (firsts xs) p.0 in
      let r = LG.shape (seconds xs) p.1 in (
        length-append (F.writing (firsts xs)) (G.writing (seconds xs)) ∙ cc (l.0, r.0),
        All-append WellFormed (F.writing (firsts xs)) (G.writing (seconds xs)) l.1 r.1,
        All-append ZeroPadded (F.writing (firsts xs)) (G.writing (seconds xs)) l.2 r.2,
      )

  return : (xs : List (A × B)) → Held (λ p. f p.0 && g p.1) xs → ((pair_format F G).sized ((pair_format F G).writing xs) ≡ None) × ((pair_format F G).reading ((pair_format F G).writing xs) ≡ reads xs)
  return xs h =
      let p = held_parts xs h in
      let l = LF.return (firsts xs) p.0 in
      let r = LG.return (seconds xs) p.1 in
      let t = take_at (F.writing (firsts xs)) (G.writing (seconds xs)) F.slots (LF.shape (firsts xs) p.0).0 in
      let d = drop_at (F.writing (firsts xs)) (G.writing (seconds xs)) F.slots (LF.shape (firsts xs) p.0).0 in
      let e : length (firsts xs) ≡ length (seconds xs) = simp length-map in (
        rw (t, d, l.0, r.0) refl,
        rw (t, d, l.1, r.1, eq-eqb (length (firsts xs)) (length (seconds xs)) e) (ap reads (zip_parts xs)),
      )

  sound : (ss : List Slice) (xs : List (A × B)) → Accepted (pair_format F G) ss xs → Held (λ p. f p.0 && g p.1) xs
  sound ss xs a =
      let s = sides F G ss xs a in
      let l = LF.sound (take F.slots ss) (firsts xs) s.0 in
      let r = LG.sound (drop F.slots ss) (seconds xs) s.1 in
      (list_all_side f g xs ∙ and_from (list_all f (firsts xs)) (list_all g (seconds xs)) l.0 r.0, rw length-map at l.1)

  least : (ss : List Slice) (xs : List (A × B)) → Accepted (pair_format F G) ss xs → weight ((pair_format F G).writing xs) ≤ weight ss
  least ss xs a =
      let s = sides F G ss xs a in
      let w : weight ss ≡ weight (take F.slots ss) + weight (drop F.slots ss) = ap weight (sym (take-append-drop F.slots ss)) ∙ weight-append (take F.slots ss) (drop F.slots ss) in
      rw (weight-append (F.writing (firsts xs)) (G.writing (seconds xs)))
      (omega (arith, LF.least (take F.slots ss) (firsts xs) s.0, LG.least (drop F.slots ss) (seconds xs) s.1))

  given : (ss : List Slice) (xs : List (A × B)) → Accepted (pair_format F G) ss xs → Accepted (pair_format F G) ((pair_format F G).giving ss) xs × AllByRecursion ZeroPadded ((pair_format F G).giving ss)
  given ss xs a =
      let s = sides F G ss xs a in
      let l = LF.given (take F.slots ss) (firsts xs) s.0 in
      let r = LG.given (drop F.slots ss) (seconds xs) s.1 in
      let ls = F.giving (take F.slots ss) in
      let rs = G.giving (drop F.slots ss) in
      let t = take_at ls rs F.slots l.0.count in
      let d = drop_at ls rs F.slots l.0.count in (
        record {
          count = length-append ls rs ∙ cc (l.0.count, r.0.count);
          formed = All-append WellFormed ls rs l.0.formed r.0.formed;
          fitting = rw (t, d, l.0.fitting, r.0.fitting) refl;
          reading = rw (t, d, l.0.reading, r.0.reading) (rw (s.0.reading, s.1.reading) at a.reading);
        },
        All-append ZeroPadded ls rs l.1 r.1,
      )

  pub pair_laws : Laws (λ p. f p.0 && g p.1) (pair_format F G)
  pair_laws = record { shape = shape; return = return; sound = sound; least = least; given = given }

-- two lists are as long as one another where so many elements are held on either side
pub same_length : {A B : Type 0} (ls : List A) (rs : List B) {m n : ℕ} → m ≡ length ls → n ≡ length rs → m ≡ n → length ls ≡ length rs
same_length ls rs p q e = sym p ∙ e ∙ q

pub still_level : {A B : Type 0} (ls : List A) (rs : List B) {m n : ℕ} → m ≡ length ls → n ≡ length rs → length ls ≡ length rs → m ≡ n
still_level ls rs p q e = p ∙ e ∙ sym q

pub pair_counted : {A B : Type 0} (ls : List A) (rs : List B) {m n : ℕ} → m ≡ length ls → n ≡ length rs → m ≡ n → m ≡ length (zip ls rs)
pair_counted ls rs p q e = rw length-zip (omega (arith, p, q, e))

-- two columns of one length, side by side
module _ {A B : Type 0} (ls : List A) (rs : List B) (level : length ls ≡ length rs) where
  pub pair_held : (f : A → Bool) (g : B → Bool) → Held f ls → Held g rs → Held (λ p. f p.0 && g p.1) (zip ls rs)
  pair_held f g h k =
      let p = parts_zip ls rs level in
      (list_all_side f g (zip ls rs) ∙ rw (p.0, p.1) (and_from (list_all f ls) (list_all g rs) h.0 k.0), rw length-zip (omega (arith, level, h.1)))

  pub pair_written : (F : Format A) (G : Format B) (us vs : List Slice) → us ≡ F.writing ls → vs ≡ G.writing rs → us ++ vs ≡ (pair_format F G).writing (zip ls rs)
  pair_written F G us vs p q = let t = parts_zip ls rs level in ap₂ ◌++◌ p q ∙ sym (rw (t.0, t.1))

-- the same of what is seen of a pair, whether or not its sides hold as many
module _ {A B : Type 0} (ls : List A) (rs : List B) {m n : ℕ} (p : m ≡ length ls) (q : n ≡ length rs) where
  level_of : eqb m n ≡ true → length ls ≡ length rs
  level_of e = same_length ls rs p q (eqb-true m n e)

  pub even_counted : even_count m n ≡ length (even_list m n ls rs)
  even_counted = by_cases (eqb m n) refl
    where
      by_cases : (b : Bool) → eqb m n ≡ b → cond b m 0 ≡ length (cond b (zip ls rs) [])
      by_cases true e = pair_counted ls rs p q (eqb-true m n e)
      by_cases false e = refl

  pub even_held : (f : A → Bool) (g : B → Bool) → Held f ls → Held g rs → Held (λ p. f p.0 && g p.1) (even_list m n ls rs)
  even_held f g h k = by_cases (eqb m n) refl
    where
      by_cases : (b : Bool) → eqb m n ≡ b → Held (λ p. f p.0 && g p.1) (cond b (zip ls rs) [])
      by_cases true e = pair_held ls rs (level_of e) f g h k
      by_cases false e = (refl, omega arith)

  pub even_written : (F : Format A) (G : Format B) (us vs : List Slice) → us ≡ F.writing ls → vs ≡ G.writing rs → even_slices F G m n us vs ≡ (pair_format F G).writing (even_list m n ls rs)
  even_written F G us vs u v = by_cases (eqb m n) refl
    where
      by_cases : (b : Bool) → eqb m n ≡ b → cond b (us ++ vs) ((pair_format F G).writing []) ≡ (pair_format F G).writing (cond b (zip ls rs) [])
      by_cases true e = pair_written ls rs (level_of e) F G us vs u v
      by_cases false e = refl

pub even_formed : {A B : Type 0} {f : A → Bool} {g : B → Bool} {F : Format A} {G : Format B} → Laws f F → Laws g G → (m n : ℕ) (us vs : List Slice) → AllByRecursion WellFormed us → AllByRecursion WellFormed vs → AllByRecursion WellFormed (even_slices F G m n us vs)
even_formed {A} {B} {f} {g} {F} {G} LF LG m n us vs u v = by_cases (eqb m n)
  where
    by_cases : (b : Bool) → AllByRecursion WellFormed (cond b (us ++ vs) ((pair_format F G).writing []))
    by_cases true = All-append WellFormed us vs u v
    by_cases false = ((pair_laws LF LG).shape [] (refl, omega arith)).1
