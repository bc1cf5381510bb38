-- The two sides of a form of pairs.
use Rattle.std.proofs.Common.{◌≡◌, ℕ, ◌+◌, ◌^◌, ◌<◌, Bool, true, eqb, is_ok, List, [], ◌∷◌, ◌++◌, length, take, drop, zip, None, Ok, Err, Result, sym, refl, ap, ◌∙◌, subst, ap₂, take-append-drop, take_at, drop_at, arith}
use lib.ListN.{length-map}
use Rattle.std.specs.List.{AllByRecursion}
use Rattle.std.specs.Result.{MatchResult, OkIff}
use Rattle.std.proofs.lemmas.Bool.{eq-eqb, ne_eqb}
use Rattle.area.specs.Fault.{refuse}
use Rattle.area.specs.Slice.{Slice}
use Rattle.area.specs.declared.fault.Fault.{Fault}
use Rattle.area.specs.declared.fault.Refusal.TheVariants.{SliceContent}
use Rattle.column.specs.Kind.{Format, Reading, after, reading_within, reads, refuses}
use Rattle.column.specs.KindLemmas.{neither}
use Rattle.decode.specs.Decode.{structure_fault}
use Rattle.read.specs.declared.form.ReadForm.{Ghosts as FormMembers}
use Rattle.read.specs.Form.{FormAnswer, Stands, There, list_of, slices_within}
use Rattle.read.proofs.FormLemmas.{list_in, there_count}
use Rattle.read.proofs.PlaceLemmas.{Made, bounds_err, bounds_ok, form_err, made, slices_left, slices_right}
use Rattle.read.specs.FormLaws.{accepted}
use Rattle.read.proofs.StandLemmas.{stands}
use Rattle.tuple.specs.Form.{PairKept, pair_slices}
use Rattle.tuple.specs.Pair.{firsts, seconds, pair_format}
use Rattle.tuple.specs.PairLaws.{sides}
use Rattle.tuple.specs.declared.form.PairForm.{PairForm}

-- a word that is made a count, or is too large for one
pub count_is : {X : Type 0} (r : Result ℕ X) (P : Type 0) (Q : X → Type 0) (w n : ℕ) → OkIff r P w → MatchResult r (λ x. ◌≡◌ {A = Result ℕ Fault} (Ok n) (Ok x)) Q → ◌≡◌ {A = Bool} true (is_ok r) → P × (n ≡ w)
count_is (Ok x) P Q w n c h v = (c.0, cc (h, c.1))
count_is (Err e) P Q w n c h v = cc

pub no_count : {X : Type 0} (r : Result ℕ X) (P : Type 0) (w : ℕ) (e : X) → OkIff r P w → Err e ≡ r → P → ⊥
no_count (Ok x) P w e c h = let z : ◌≡◌ {A = ℕ} 0 1 = cc in absurd (omega arith)
no_count (Err d) P w e c h = c

-- the list and the slices of two sides, each of which stands by itself
module _ {A B : Type 0} (F : Format A) (G : Format B) (ls rs : List Slice) (count : length ls ≡ F.slots) where
  pub giving_sides : F.giving ls ++ G.giving rs ≡ (pair_format F G).giving (ls ++ rs)
  giving_sides = sym (ap₂ (λ us vs. F.giving us ++ G.giving vs) (take_at ls rs F.slots count) (drop_at ls rs F.slots count))

  abbrev together : Reading A → Reading B → List (A × B)
  together p q = list_in (after 0 p (λ xs. after F.slots q (λ ys. reading_within (eqb (length xs) (length ys)) (zip xs ys))))

  -- what cannot be read is empty
  zip-together : (p : Reading A) (q : Reading B) → length (list_in p) ≡ length (list_in q) → zip (list_in p) (list_in q) ≡ together p q
  zip-together (refuses k) q h = refl
  zip-together (reads []) (refuses k) h = refl
  zip-together (reads (x ∷ xs)) (refuses k) h = refl
  zip-together (reads xs) (reads ys) h = rw (eq-eqb (length xs) (length ys) h)

  pub list_sides : length (list_of F ls) ≡ length (list_of G rs) → zip (list_of F ls) (list_of G rs) ≡ list_of (pair_format F G) (ls ++ rs)
  list_sides level =
      zip-together (F.reading ls) (G.reading rs) level ∙ sym (ap₂ (λ us vs. together (F.reading us) (G.reading vs)) (take_at ls rs F.slots count) (drop_at ls rs F.slots count))

-- the two sides of a form of pairs
module _ {K J X Y A B : Type 0} (l : FormMembers K X A) (r : FormMembers J Y B) (F : Format A) (G : Format B) (t : PairForm X Y) (ws : List ℕ) where
  pub record Apart : Type 0 where
    pub left : Stands l.slices l.kept F t.first ws
    pub right : Stands r.slices r.kept G t.second ws
    pub level : length (list_of F (l.slices t.first ws)) ≡ length (list_of G (r.slices t.second ws))

  pub apart : Stands (pair_slices l r) (PairKept l r F.slots) (pair_format F G) t ws → Apart
  apart s =
      let ls = l.slices t.first ws in
      let rs = r.slices t.second ws in
      let xs = list_of (pair_format F G) (ls ++ rs) in
      let a = sides F G (ls ++ rs) xs (accepted s) in
      let u = stands l.slices l.kept F t.first ws _ (firsts xs) s.keeps.first (take_at ls rs F.slots s.keeps.count) a.0 in
      let v = stands r.slices r.kept G t.second ws _ (seconds xs) s.keeps.second (drop_at ls rs F.slots s.keeps.count) a.1 in
      record {
        left = u.0;
        right = v.0;
        level = ap length u.1 ∙ length-map xs (λ x. x.0) ∙ sym (ap length v.1 ∙ length-map xs (λ x. x.1));
      }

-- the answers to question 9 of a pair, from those of its sides, of which the second begins at number b
module _ {K J X Y A B : Type 0} (l : FormMembers K X A) (r : FormMembers J Y B) (F : Format A) (G : Format B) (ws : List ℕ) (asked : structure_fault None ws ≡ None) (whole : AllByRecursion (λ w. w < 2 ^ 64) ws) (a b : ℕ) (t : There ws a (F.slots + G.slots)) (z : (pair_format F G).sized (slices_within ws a (F.slots + G.slots)) ≡ None) (e : b ≡ a + F.slots) where
  abbrev ss : List Slice
  ss = slices_within ws a (F.slots + G.slots)

  abbrev ls : List Slice
  ls = slices_within ws a F.slots

  abbrev rs : List Slice
  rs = slices_within ws b G.slots

  abbrev pub Answer : Result (PairForm X Y) Fault → Type 0
  Answer o = FormAnswer (pair_slices l r) (PairKept l r F.slots) ws ss a ((pair_format F G).reading ss) o

  abbrev First : Result X Fault → Type 0
  First o = There ws a F.slots → F.sized ls ≡ None → FormAnswer l.slices l.kept ws ls a (F.reading ls) o

  abbrev Second : Result Y Fault → Type 0
  Second o = There ws b G.slots → G.sized rs ≡ None → FormAnswer r.slices r.kept ws rs b (G.reading rs) o

  left : take F.slots ss ≡ ls
  left = slices_left ws a F.slots G.slots

  right : drop F.slots ss ≡ rs
  right = slices_right ws a F.slots G.slots b e

  there_first : There ws a F.slots
  there_first = omega (arith, t)

  there_second : There ws b G.slots
  there_second = omega (arith, t, e)

  none_first : F.sized ls ≡ None
  none_first = ap F.sized (sym left) ∙ (neither F.slots (F.sized (take F.slots ss)) (G.sized (drop F.slots ss)) z).0

  none_second : G.sized rs ≡ None
  none_second = ap G.sized (sym right) ∙ (neither F.slots (F.sized (take F.slots ss)) (G.sized (drop F.slots ss)) z).1

  made_first : (x : X) → First (Ok x) → Made ws asked whole l.slices l.kept F a there_first x
  made_first x h = made ws asked whole l.slices l.kept F a there_first none_first x (h there_first none_first)

  made_second : (y : Y) → Second (Ok y) → Made ws asked whole r.slices r.kept G b there_second y
  made_second y h = made ws asked whole r.slices r.kept G b there_second none_second y (h there_second none_second)

  module _ (x : X) (h : First (Ok x)) where
    reads_first : F.reading (take F.slots ss) ≡ reads (list_of F (l.slices x ws))
    reads_first = let m = made_first x h in ap F.reading left ∙ m.reading ∙ ap reads (sym m.list)

    pub second_refused : (v : Fault) → Second (Err v) → (o : Result (PairForm X Y) Fault) → o ≡ Err v → Answer o
    second_refused v k o i =
        rw (i, reads_first)
        (form_err (pair_slices l r) (PairKept l r F.slots) ws ss r.slices r.kept ws rs a b F.slots (G.reading (drop F.slots ss)) _ v e
        (subst (λ us. FormAnswer r.slices r.kept ws rs b (G.reading us) (Err v)) (sym right) (k there_second none_second)))

    -- m and n elements, as the sides' forms count them where they stand
    module _ (y : Y) (k : Second (Ok y)) (m n : ℕ) (c : (vs : List ℕ) → Stands l.slices l.kept F x vs → m ≡ length (list_of F (l.slices x vs))) (d : (vs : List ℕ) → Stands r.slices r.kept G y vs → n ≡ length (list_of G (r.slices y vs))) where
      reads_both : (pair_format F G).reading ss ≡ reading_within (eqb m n) (zip (list_of F (l.slices x ws)) (list_of G (r.slices y ws)))
      reads_both =
          let u = made_first x h in
          let v = made_second y k in
          rw (reads_first, ap G.reading right ∙ v.reading, ← v.list, c ws u.stands, d ws v.stands)

      pub uneven : (m ≡ n → ⊥) → (v : Fault) → v ≡ refuse SliceContent a → Answer (Err v)
      uneven f v i = rw reads_both (bounds_err (pair_slices l r) (PairKept l r F.slots) ws ss a _ _ v (ne_eqb m n f) i)

      pub even : m ≡ n → Answer (Ok (record { first = x; second = y }))
      even f =
          let u = made_first x h in
          let v = made_second y k in
          rw reads_both
          (bounds_ok (pair_slices l r) (PairKept l r F.slots) ws ss a _ _ _ (eq-eqb m n f)
          (record { first = u.keeps; second = v.keeps; count = ap length u.of ∙ there_count ws a F.slots there_first })
          (ap₂ ◌++◌ (u.of ∙ sym left) (v.of ∙ sym right) ∙ take-append-drop F.slots ss))
