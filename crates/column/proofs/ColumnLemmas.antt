-- What a column answers at a place, and what a push leaves.
use Rattle.std.proofs.Common.{◌≡◌, ℕ, zero, suc, ◌<◌, ◌≤◌, Bool, true, List, [], ◌∷◌, ◌++◌, length, get_or, Ok, Err, refl, arith, Result, MatchResult, IsErrAnd}
use Rattle.std.specs.List.{list_all}
use Rattle.std.proofs.lemmas.Bool.{and_from, and_parts}
use Rattle.area.specs.Fault.{refuse}
use Rattle.area.specs.declared.fault.Refusal.TheVariants.{OutOfRange}
use Rattle.column.specs.Column.{element}

pub element_at_lem : {E : Type 0} (xs : List E) (i : ℕ) (d : E) → i < length xs → element xs i ≡ Ok (get_or xs i d)
element_at_lem [] i d h = absurd (omega arith)
element_at_lem (x ∷ xs) zero d h = refl
element_at_lem (x ∷ xs) (suc i) d h = element_at_lem xs i d (omega arith)

pub element_past : {E : Type 0} (xs : List E) (i : ℕ) → length xs ≤ i → element xs i ≡ Err (refuse OutOfRange 0)
element_past [] i h = refl
element_past (x ∷ xs) zero h = absurd (omega arith)
element_past (x ∷ xs) (suc i) h = element_past xs i (omega arith)

-- what `map_err` was given where it answers a fault
pub mapped : {X A D : Type 0} (r : Result X A) (f : D) (made : A → D → Type 0) → MatchResult r (λ x. ◌≡◌ {A = Result X D} (Err f) (Ok x)) (λ e. IsErrAnd {T = X} (Err f) (made e)) → (e : A) × (Err e ≡ r) × made e f
mapped (Ok x) f made h = let z : ◌≡◌ {A = ℕ} 0 1 = cc in absurd (omega arith)
mapped (Err e) f made h = (e, refl, h)

-- an element that was found
pub element_found : {E : Type 0} (xs : List E) (i : ℕ) (x d : E) → Ok x ≡ element xs i → (i < length xs) × (get_or xs i d ≡ x)
element_found [] i x d e = let z : ◌≡◌ {A = ℕ} 0 1 = cc in absurd (omega arith)
element_found (y ∷ xs) zero x d e = (omega arith, cc)
element_found (y ∷ xs) (suc i) x d e = let r = element_found xs i x d e in (omega arith, r.1)

pub list_all_append : {E : Type 0} (p : E → Bool) (xs ys : List E) → list_all p xs ≡ true → list_all p ys ≡ true → list_all p (xs ++ ys) ≡ true
list_all_append p [] ys h k = k
list_all_append p (x ∷ xs) ys h k = let q = and_parts (p x) (list_all p xs) h in and_from (p x) (list_all p (xs ++ ys)) q.0 (list_all_append p xs ys q.1 k)
