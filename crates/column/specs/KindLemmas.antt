-- What tests, refusals and readings say, for the laws of every kind.
use Rattle.std.specs.Prelude.{◌≡◌, ℕ, ◌<◌, ◌≤◌, Bool, true, false, cond, List, [], ◌∷◌, length, Some, None, Option, refl}
use Rattle.std.proofs.Common.{arith}
use Rattle.std.specs.List.{AllByRecursion, list_all}
use Rattle.std.proofs.ByRecursion.{All-get_or}
use Rattle.std.proofs.lemmas.Bool.{and_from, and_parts, leb-true}
use Rattle.area.specs.Slice.{Slice, WellFormed}
use Rattle.column.specs.Kind.{Reading, reads, refuses, slot, least_words, first_refused, further, after, reading_within}

-- `list_all` as `AllByRecursion`, and back
module _ {E : Type 0} (p : E → Bool) where
  pub all_from_list_all : (xs : List E) → list_all p xs ≡ true → AllByRecursion (λ x. p x ≡ true) xs
  all_from_list_all [] h = tt
  all_from_list_all (x ∷ xs) h = let q = and_parts (p x) (list_all p xs) h in (q.0, all_from_list_all xs q.1)

  pub list_all_from_all : (xs : List E) → AllByRecursion (λ x. p x ≡ true) xs → list_all p xs ≡ true
  list_all_from_all [] h = refl
  list_all_from_all (x ∷ xs) h = and_from (p x) (list_all p xs) h.0 (list_all_from_all xs h.1)

-- a slice of well-formed ones
pub slot-formed : (ss : List Slice) (k : ℕ) → k < length ss → AllByRecursion WellFormed ss → WellFormed (slot ss k)
slot-formed ss k h w = All-get_or WellFormed ss k (record { words = []; bytes = 0 }) h w

-- a refusal that is not raised, and of two refusals neither
pub passed : (b : Bool) (k : ℕ) → cond b None (Some k) ≡ None → b ≡ true
passed true k h = refl
passed false k h = cc

pub least_words_lem : (n k : ℕ) (s : Slice) → least_words n k s ≡ None → n ≤ length s.words
least_words_lem n k s h = leb-true n (length s.words) (passed _ k h)

pub neither : (n : ℕ) (p q : Option ℕ) → first_refused p (further n q) ≡ None → (p ≡ None) × (q ≡ None)
neither n None None h = (refl, refl)
neither n None (Some k) h = (refl, cc)
neither n (Some k) None h = (h, refl)
neither n (Some k) (Some j) h = (h, cc)

-- what a reading that is not refused was read from
pub in_bounds : {E : Type 0} (b : Bool) (xs ys : List E) → reading_within b xs ≡ reads ys → (b ≡ true) × (xs ≡ ys)
in_bounds true xs ys h = (refl, cc)
in_bounds false xs ys h = (cc, cc)

pub after-reads : {D E : Type 0} (n : ℕ) (r : Reading D) (f : List D → Reading E) (ys : List E) → after n r f ≡ reads ys → (xs : List D) × (r ≡ reads xs) × (f xs ≡ reads ys)
after-reads n (reads xs) f ys h = (xs, refl, h)
after-reads n (refuses k) f ys h = let z : ◌≡◌ {A = ℕ} 0 1 = cc in absurd (omega arith)
