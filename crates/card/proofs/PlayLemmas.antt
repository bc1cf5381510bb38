-- One record of an input, and the records after it.
use Rattle.std.proofs.Common.{◌≡◌, ℕ, suc, ◌-◌, Bool, List, [], ◌∷◌, ◌++◌, length, Some, None, Ok, Err, Option, sym, refl, ap, ◌∙◌, append_assoc, append-nil, arith}
use Rattle.area.specs.Fault.{refuse}
use Rattle.area.specs.Slice.{Slice}
use Rattle.area.specs.declared.fault.Fault.{Fault}
use Rattle.area.specs.declared.fault.Refusal.TheVariants.{UnknownRecord}
use Rattle.card.specs.Records.{Block, answers, record_of, records, records_after, size_of}
use Rattle.card.specs.Tables.{after, answer, list_after, lines_of}
use Rattle.card.specs.declared.line.Line.{Line}
use Rattle.card.specs.declared.line.Line.TheVariants.{Refused}
use Rattle.card.specs.declared.record.Record.{Record}

-- answers tell the records
answers_same : (m n : ℕ) (rs ss : List (Option (Record Block))) → answers m rs ≡ answers n ss → rs ≡ ss
answers_same m n [] [] h = refl
answers_same m n [] (s ∷ ss) h = let z : ◌≡◌ {A = ℕ} 0 1 = cc in absurd (omega arith)
answers_same m n (r ∷ rs) [] h = let z : ◌≡◌ {A = ℕ} 0 1 = cc in absurd (omega arith)
answers_same m n (Some r ∷ rs) (Some s ∷ ss) h = let t = answers_same (suc m) (suc n) rs ss cc in cc
answers_same m n (Some r ∷ rs) (None ∷ ss) h = let z : ◌≡◌ {A = ℕ} 0 1 = cc in absurd (omega arith)
answers_same m n (None ∷ rs) (Some s ∷ ss) h = let z : ◌≡◌ {A = ℕ} 0 1 = cc in absurd (omega arith)
answers_same m n (None ∷ rs) (None ∷ ss) h = let t = answers_same (suc m) (suc n) rs ss cc in cc

-- the record that an answer stands for
pub first_read : (m n : ℕ) (rs ss : List (Option (Record Block))) (r : Record Block) → answers m rs ≡ Ok r ∷ answers n ss → rs ≡ Some r ∷ ss
first_read m n [] ss r h = let z : ◌≡◌ {A = ℕ} 0 1 = cc in absurd (omega arith)
first_read m n (Some s ∷ rs) ss r h = let t = answers_same (suc m) n rs ss cc in cc
first_read m n (None ∷ rs) ss r h = let z : ◌≡◌ {A = ℕ} 0 1 = cc in absurd (omega arith)

first_refused : (m n : ℕ) (rs ss : List (Option (Record Block))) (f : Fault) → answers m rs ≡ Err f ∷ answers n ss → (rs ≡ None ∷ ss) × (f ≡ refuse UnknownRecord m)
first_refused m n [] ss f h = let z : ◌≡◌ {A = ℕ} 0 1 = cc in absurd (omega arith)
first_refused m n (Some s ∷ rs) ss f h = let z : ◌≡◌ {A = ℕ} 0 1 = cc in absurd (omega arith)
first_refused m n (None ∷ rs) ss f h = let t = answers_same (suc m) n rs ss cc in (cc, cc)

-- what is no record is the last
last_by : (o : Option (Record Block)) (bs : List ℕ) (ss : List (Option (Record Block))) → elim o [ Some r ↦ Some r ∷ records_after (size_of r - 1) bs | None ↦ None ∷ [] ] ≡ None ∷ ss → ss ≡ []
last_by (Some r) bs ss h = let z : ◌≡◌ {A = ℕ} 0 1 = cc in absurd (omega arith)
last_by None bs ss h = cc

refused_last : (bs : List ℕ) (ss : List (Option (Record Block))) → records bs ≡ None ∷ ss → ss ≡ []
refused_last [] ss h = let z : ◌≡◌ {A = ℕ} 0 1 = cc in absurd (omega arith)
refused_last (k ∷ bs) ss h = last_by (record_of (k ∷ bs)) bs ss h

module _ (t : List Block → Block → Bool) (w : List Block → List Slice) (area : List ℕ) where
  -- A run of the records `all` from the list xs and the lines `was`: rs are left, and the list and the lines are now ys
  -- and `now`.
  pub record Left (xs : List Block) (was : List Line) (all rs : List (Option (Record Block))) (ys : List Block) (now : List Line) : Type 0 where
    pub list : list_after t w area ys rs ≡ list_after t w area xs all
    pub lines : now ++ lines_of t w area ys rs ≡ was ++ lines_of t w area xs all

  module _ (xs ys : List Block) (was now new : List Line) (all : List (Option (Record Block))) (bs cs : List ℕ) (m n : ℕ) (h : Left xs was all (records bs) ys now) where
    pub left_more : (r : Record Block) (zs : List Block) → answers m (records bs) ≡ Ok r ∷ answers n (records cs) → zs ≡ after t w area ys r → new ≡ now ++ answer t w area ys r → Left xs was all (records cs) zs new
    left_more r zs e a b =
        let s = first_read m n (records bs) (records cs) r e in
        record {
          list = rw a (ap (list_after t w area ys) (sym s) ∙ h.list);
          lines = rw (a, b, append_assoc) (ap (λ rs. now ++ lines_of t w area ys rs) (sym s) ∙ h.lines);
        }

    pub left_refused : (f : Fault) → answers m (records bs) ≡ Err f ∷ answers n (records cs) → new ≡ now ++ Refused f.refusal (length ys) ∷ [] → Left xs was all (records cs) ys new
    left_refused f e b =
        let s = first_refused m n (records bs) (records cs) f e in
        let l = refused_last bs (records cs) s.0 in
        record {
          list = ap (list_after t w area ys) l ∙ ap (list_after t w area ys) (sym s.0) ∙ h.list;
          lines = ap (λ rs. new ++ lines_of t w area ys rs) l ∙ append-nil new ∙ b ∙ ap (λ q. now ++ Refused q.refusal (length ys) ∷ []) s.1 ∙ ap (λ rs. now ++ lines_of t w area ys rs) (sym s.0) ∙ h.lines;
        }

  pub left_none : (xs ys : List Block) (was now : List Line) (all : List (Option (Record Block))) (bs : List ℕ) (m : ℕ) → Left xs was all (records bs) ys now → answers m (records bs) ≡ [] → (ys ≡ list_after t w area xs all) × (now ≡ was ++ lines_of t w area xs all)
  left_none xs ys was now all bs m h e =
      let l : records bs ≡ [] = answers_same m 0 (records bs) [] e in
      (ap (list_after t w area ys) (sym l) ∙ h.list, sym (append-nil now) ∙ ap (λ rs. now ++ lines_of t w area ys rs) (sym l) ∙ h.lines)
