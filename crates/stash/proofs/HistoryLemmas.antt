-- What a history records is what its table holds, and a list that the kind writes.
use Rattle.std.proofs.Common.{◌≡◌, ℕ, ◌≤◌, Bool, true, false, cond, eqb, leb, List, [], ◌∷◌, ◌++◌, length, take, Ok, Err, Result, sym, refl, ap, subst, append-nil, arith}
use Rattle.std.specs.List.{between}
use Rattle.std.proofs.lemmas.List.{take_all}
use Rattle.std.proofs.lemmas.Bool.{cond_both, eqb-true}
use Rattle.area.specs.Fault.{refuse}
use Rattle.area.specs.Slice.{Slice}
use Rattle.area.specs.declared.fault.Fault.{Fault}
use Rattle.area.specs.declared.fault.Refusal.TheVariants.{NotTaken, OutOfRange}
use Rattle.column.specs.Column.{Areas, push_answer, pushed, range_answer, range_appended, taken}
use Rattle.column.specs.Kind.{Accepted, CAP, Format, Held, Laws}
use Rattle.decode.specs.Decode.{slices_of}
use Rattle.indexed.specs.Image.{image}
use Rattle.read.specs.Admission.{admission}
use Rattle.stash.specs.History.{Call, History, Table, Undisturbed, added, admitted, after, align, append, bytes, clear, encoded, fresh, holds, if_ok, typed_answer, next, push, recorded, store_aligned, store_bytes, takes_all, typed, written}
use Rattle.stash.proofs.AdmitLemmas.{admitted-accepted, admitted-short, image-admitted, image-decoded, written-accepted}

-- an append, by its answer
module _ {E : Type 0} where
  abbrev more : List E → List E → Result (Unit {0}) Fault → List E
  more xs ys r = elim r [ Ok u ↦ xs ++ ys | Err f ↦ xs ++ take (added f) ys ]

  more_taken : (b : Bool) (xs ys : List E) (n : ℕ) → cond b (xs ++ take n ys) xs ≡ more xs ys (cond b (cond (eqb n (length ys)) (Ok tt) (Err (refuse NotTaken n))) (Err (refuse OutOfRange 0)))
  more_taken false xs ys n = sym (append-nil xs)
  more_taken true xs ys n = cond_both (eqb n (length ys)) (Ok tt) (Err (refuse NotTaken n)) (λ r. xs ++ take n ys ≡ more xs ys r) (λ e. ap (λ zs. xs ++ zs) (take_all n ys (omega (arith, eqb-true n (length ys) e)))) (λ e. refl)

  range_recorded : (t : Areas → List E → E → Bool) (a : Areas) (xs ys : List E) (i j : ℕ) → range_appended (t a) xs ys i j ≡ more xs (between i j ys) (range_answer (t a) xs ys i j)
  range_recorded t a xs ys i j = more_taken (leb j (length ys)) xs (between i j ys) (taken (t a) xs (between i j ys))

-- a push, by its answer
push-recorded : {E : Type 0} (b : Bool) (xs : List E) (x : E) → pushed b xs x ≡ if_ok (push_answer b) (xs ++ x ∷ []) xs
push-recorded true xs x = refl
push-recorded false xs x = refl

module _ {E : Type 0} (F : Format E) where
  -- words that are admitted with a list, and whose slices are accepted and read as it
  abbrev Stored : List ℕ → List E → Type 0
  Stored ws xs = (admission F ws ≡ Ok xs) × Accepted F (slices_of ws) xs

  image_stored : (ss : List Slice) (xs : List E) → Accepted F ss xs → length (image ss) ≤ CAP → Stored (image ss) xs
  image_stored ss xs a l = (image-admitted F ss xs a l, subst (λ us. Accepted F us xs) (sym (image-decoded ss a.formed l).1) a)

  -- a table with this list
  abbrev Keeps : Table E → List E → Type 0
  Keeps (typed a ys) xs = ys ≡ xs
  Keeps (bytes ws) xs = Stored ws xs
  Keeps (align ws) xs = Stored ws xs

  keeps_if : (r : Result (List E) Fault) (y T : Table E) (xs : List E) → ((zs : List E) → r ≡ Ok zs → Keeps y xs) → Keeps T xs → Keeps (if_ok r y T) xs
  keeps_if (Ok zs) y T xs f k = f zs refl
  keeps_if (Err e) y T xs f k = k

  keeps-holds : (T : Table E) (xs : List E) → Keeps T xs → holds F T ≡ xs
  keeps-holds (typed a ys) xs k = k
  keeps-holds (bytes ws) xs k = ap (λ r. elim r [ Ok ys ↦ ys | Err f ↦ [] ]) k.0
  keeps-holds (align ws) xs k = ap (λ r. elim r [ Ok ys ↦ ys | Err f ↦ [] ]) k.0

  keeps_typed : (t : Areas → List E → E → Bool) (T : Table E) (xs : List E) (b : Areas) → Keeps T xs → Keeps (cond (takes_all t b (holds F T)) (typed b (holds F T)) T) xs
  keeps_typed t T xs b k = cond_both (takes_all t b (holds F T)) (typed b (holds F T)) T (λ U. Keeps U xs) (λ e. keeps-holds T xs k) (λ e. k)

module _ {E : Type 0} (fits : E → Bool) (F : Format E) (laws : Laws fits F) (t : Areas → List E → E → Bool) where
  -- what the first step of a reload writes, and of `make_aligned`, reads as the same list
  typed_stored : (ys xs : List E) → ys ≡ xs → Held fits xs → length (image (F.writing ys)) ≤ CAP → Stored F (image (F.writing ys)) xs
  typed_stored ys xs k h = rw k (image_stored F (F.writing xs) xs (written-accepted fits F laws xs h))

  written_stored : (T : Table E) (xs : List E) → Keeps F T xs → Held fits xs → length (written F T) ≤ CAP → Stored F (written F T) xs
  written_stored (typed a ys) xs k h = typed_stored ys xs k h
  written_stored (bytes ws) xs k h = λ l. k
  written_stored (align ws) xs k h = λ l. k

  encoded_stored : (T : Table E) (xs : List E) → Keeps F T xs → Held fits xs → length (encoded F T) ≤ CAP → Stored F (encoded F T) xs
  encoded_stored (typed a ys) xs k h = typed_stored ys xs k h
  encoded_stored (bytes ws) xs k h = image_stored F (F.giving (slices_of ws)) xs (laws.given (slices_of ws) xs k.1).0
  encoded_stored (align ws) xs k h = λ l. k

  -- words that are stored, if they are what was written
  admitted_stored : (ws vs : List ℕ) (xs zs : List E) → ws ≡ vs → (length vs ≤ CAP → Stored F vs xs) → admission F ws ≡ Ok zs → Stored F ws xs
  admitted_stored ws vs xs zs u f e = subst (λ us. length us ≤ CAP → Stored F us xs) (sym u) f (admitted-short F ws zs e)

  step : (T : Table E) (xs : List E) (k : Call E) → Keeps F T xs → Held fits xs → Undisturbed F T k → Keeps F (after F t T k) (recorded F t T xs k)
  step (typed a ys) xs (push x) k h u = rw (← k) (push-recorded (t a ys x) ys x)
  step (typed a ys) xs (append zs i j) k h u = rw (← k) (range_recorded t a ys zs i j)
  step (typed a ys) xs clear k h u = refl
  step (typed a ys) xs (typed_answer b) k h u = k
  step (typed a ys) xs (store_aligned vs) k h u = keeps_if F (admission F vs) (align vs) (typed a ys) xs (λ zs. admitted_stored vs _ xs zs u (encoded_stored (typed a ys) xs k h)) k
  step (bytes ws) xs (push x) k h u = k
  step (bytes ws) xs (append zs i j) k h u = rw append-nil k
  step (bytes ws) xs clear k h u = k
  step (bytes ws) xs (typed_answer b) k h u = keeps_typed F t (bytes ws) xs b k
  step (bytes ws) xs (store_aligned vs) k h u = keeps_if F (admission F vs) (align vs) (bytes ws) xs (λ zs. admitted_stored vs _ xs zs u (encoded_stored (bytes ws) xs k h)) k
  step (align ws) xs (push x) k h u = k
  step (align ws) xs (append zs i j) k h u = rw append-nil k
  step (align ws) xs clear k h u = k
  step (align ws) xs (typed_answer b) k h u = keeps_typed F t (align ws) xs b k
  step (align ws) xs (store_aligned vs) k h u = k
  step T xs (store_bytes vs) k h u = keeps_if F (admission F vs) (bytes vs) T xs (λ zs. admitted_stored vs _ xs zs u (written_stored T xs k h)) k

  kept : {T : Table E} {xs : List E} → History F t fits T xs → Keeps F T xs × Held fits xs
  kept (fresh a) = (refl, (refl, omega arith))
  kept (admitted ws xs w e) = let a = admitted-accepted F ws xs w e in ((e, a), laws.sound (slices_of ws) xs a)
  kept (next T xs k p u h) =
      let q = kept p in
      let r = step T xs k q.0 q.1 u in
      (r, subst (Held fits) (keeps-holds F (after F t T k) (recorded F t T xs k) r) h)

  pub history-holds : {T : Table E} {xs : List E} → History F t fits T xs → (holds F T ≡ xs) × Held fits xs
  history-holds {T} {xs} p = let q = kept p in (keeps-holds F T xs q.0, q.1)
