-- A converted table: what `make_typed` accepted is Typed and holds the same list, and what is owed of its image.
use Rattle.std.proofs.Common.{◌≡◌, ℕ, ◌≤◌, Bool, true, false, cond, eqb, List, [], ◌++◌, length, drop, Ok, Err, sym, refl, ap, ap₂, ◌∙◌, subst, ⊎_elim, arith}
use Rattle.std.proofs.lemmas.List.{take_all}
use Rattle.std.proofs.lemmas.Bool.{cases_lt, eqb-true, le-leb, lt-leb}
use Rattle.std.proofs.lemmas.Bool.Decides.{nat_tests}
use Rattle.area.specs.Slice.{spill}
use Rattle.area.proofs.SliceLemmas.{length-spill}
use Rattle.column.specs.Column.{Areas, append_answer}
use Rattle.column.specs.Kind.{CAP, Format, Laws}
use Rattle.indexed.specs.Image.{image, image_of}
use Rattle.indexed.specs.Pieces.{Written, bytes_given, given, joined, pieces}
use Rattle.indexed.proofs.PieceLemmas.{pieces-spill}
use Rattle.storage.specs.declared.write.WriteBytes.{Ghosts as SinkMembers}
use Rattle.stash.specs.Claim.{Claim, Converted}
use Rattle.stash.specs.Convert.{Owed, OwedInto}
use Rattle.stash.specs.History.{History, Table, after, align, answer, bytes, holds, typed_answer, takes_all, typed}
use Rattle.stash.specs.Written.{Reloads, TableWritten}
use Rattle.stash.proofs.ClaimLemmas.{claim}
use Rattle.stash.proofs.HistoryLemmas.{history-holds}

-- a column takes a whole list where an append of it to nothing is accepted
all_taken : {E X : Type 0} (t : Areas → List E → E → Bool) (b : Areas) (xs : List E) (x y : X) → append_answer (t b) [] xs ≡ Ok tt → cond (takes_all t b xs) x y ≡ x
all_taken t b xs x y e = grind (arith, nat_tests)

-- a reload that answers a length was given all
all_given : {X : Type 0} (b : Bool) (n m : ℕ) (f : X) → Ok n ≡ cond b (Ok m) (Err f) → (b ≡ true) × (n ≡ m)
all_given true n m f h = (refl, cc)
all_given false n m f h = let z : ◌≡◌ {A = ℕ} 0 1 = cc in absurd (omega arith)

module _ {E : Type 0} (F : Format E) (t : Areas → List E → E → Bool) where
  -- what `make_typed` accepts
  pub made_typed : (T : Table E) (b : Areas) → answer F t T (typed_answer b) ≡ Ok tt → (a : Areas) × (after F t T (typed_answer b) ≡ typed a (holds F T))
  made_typed (typed a xs) b e = (a, refl)
  made_typed (bytes ws) b e = (b, all_taken t b (holds F (bytes ws)) _ _ e)
  made_typed (align ws) b e = (b, all_taken t b (holds F (align ws)) _ _ e)

  module _ (fits : E → Bool) (laws : Laws fits F) where
    -- the image of a list that a history records, where it is not too long
    converted : (T : Table E) (xs : List E) → History F t fits T xs → length (image_of F xs) ≤ CAP → Converted fits F t T xs (image_of F xs) × Claim fits F xs (image_of F xs)
    converted T xs h l = (record { history = h; image = refl; short = l }, claim fits F laws xs (history-holds fits F laws t h).1 l)

    -- a fact of the table that `make_typed` accepts, for the list that a history records
    of_list : (P : Table E → Type 0) (T : Table E) (b : Areas) (xs : List E) → answer F t T (typed_answer b) ≡ Ok tt → History F t fits T xs → P (after F t T (typed_answer b)) → (a : Areas) × P (typed a xs)
    of_list P T b xs e h p =
        let (a, q) = made_typed T b e in
        (a, subst (λ ys. P (typed a ys)) (history-holds fits F laws t h).0 (subst P q p))

    pub owed : {W X : Type 0} (sink : SinkMembers W X) (T : Table E) (b : Areas) (s u : W) → answer F t T (typed_answer b) ≡ Ok tt → TableWritten sink F (after F t T (typed_answer b)) s u (Ok tt) → Owed sink fits F t T s u
    owed sink T b s u e w xs h =
        let v : Written sink (F.writing xs) s u (Ok tt) = (of_list (λ V. TableWritten sink F V s u (Ok tt)) T b xs e h w).1 in
        let l : length (image_of F xs) ≤ CAP = ⊎_elim (λ m. absurd (let r = (v.long m).0 in let z : ◌≡◌ {A = ℕ} 0 1 = cc in omega arith)) (λ m. m) (cases_lt CAP (length (image_of F xs))) in
        (v.whole refl (laws.shape xs (history-holds fits F laws t h).1).2, converted T xs h l)

    pub owed_into : (T : Table E) (b : Areas) (was area : List ℕ) (n : ℕ) → answer F t T (typed_answer b) ≡ Ok tt → Reloads F (after F t T (typed_answer b)) was area (Ok n) → OwedInto fits F t T was area n
    owed_into T b was area n e w xs h =
        let ss = F.writing xs in
        let ps = pieces ss in
        let s = laws.shape xs (history-holds fits F laws t h).1 in
        let (a, v) = of_list (λ V. Reloads F V was area (Ok n)) T b xs e h w in
        let l : length (image_of F xs) ≤ CAP = ⊎_elim (λ m. absurd (let r = (v.long (lt-leb _ _ m)).0 in let z : ◌≡◌ {A = ℕ} 0 1 = cc in omega arith)) (λ m. m) (cases_lt CAP (length (image_of F xs))) in
        let p = v.short (le-leb _ _ l) in
        let r = all_given (eqb (given (length was) ps) (length ps)) n _ _ p.0 in
        let q : bytes_given (length was) ps ≡ joined ps = ap joined (take_all (given (length was) ps) ps (omega (arith, eqb-true _ _ r.0))) in
        let i : bytes_given (length was) ps ≡ spill (image ss) = q ∙ pieces-spill ss s.1 s.2 in
        (r.1 ∙ ap length i ∙ length-spill (image ss), p.1 ∙ ap₂ (λ bs m. bs ++ drop m was) i (sym r.1), converted T xs h l)
