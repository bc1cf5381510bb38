-- The laws of empties.
use Rattle.std.proofs.Common.{◌≡◌, ℕ, ◌≤◌, true, leb, List, [], ◌∷◌, length, take, replicate, refl, ap, arith}
use lib.ListN.{length-replicate}
use Rattle.std.specs.List.{AllByRecursion, list_all}
use Rattle.std.proofs.lemmas.List.{take_more}
use Rattle.std.proofs.lemmas.Bool.{le-leb, leb-true}
use Rattle.area.specs.Slice.{Slice, WellFormed, ZeroPadded, weight}
use Rattle.area.proofs.DigitLemmas.{all_always}
use Rattle.area.proofs.SliceLemmas.{of_words-formed, of_words_padded}
use Rattle.tuple.specs.Empties.{empties_format, empties_list}
use Rattle.column.specs.Kind.{Accepted, Held, L, Laws, reads, slot, word_of}
use Rattle.column.specs.KindLemmas.{list_all_from_all, in_bounds, least_words_lem}

every_empty : (xs : List (Unit {0})) → list_all (λ (_ : Unit {0}). true) xs ≡ true
every_empty xs = list_all_from_all (λ (_ : Unit {0}). true) xs (all_always (λ x. true ≡ true) (λ x. refl) xs)

pub empties_held : (n : ℕ) → Held (λ (_ : Unit {0}). true) (empties_list n)
empties_held n = (every_empty (empties_list n), rw length-replicate (omega arith))

-- empties differ in their count alone
replicate_unit : (xs : List (Unit {0})) → replicate (length xs) tt ≡ xs
replicate_unit [] = refl
replicate_unit (x ∷ xs) = ap (λ ys. tt ∷ ys) (replicate_unit xs)

sound : (ss : List Slice) (xs : List (Unit {0})) → Accepted empties_format ss xs → Held (λ (_ : Unit {0}). true) xs
sound [] xs a = absurd (omega arith)
sound (s ∷ []) xs a =
    let n : ℕ = word_of s 0 in
    let r = in_bounds (leb n L) (replicate n tt) xs a.reading in (
      every_empty xs,
      rw (← r.1, length-replicate) (leb-true n L r.0),
    )
sound (s ∷ t ∷ ss) xs a = absurd (omega arith)

least : (ss : List Slice) (xs : List (Unit {0})) → Accepted empties_format ss xs → weight (empties_format.writing xs) ≤ weight ss
least [] xs a = absurd (omega arith)
least (s ∷ []) xs a = omega (arith, least_words_lem 1 0 s a.fitting)
least (s ∷ t ∷ ss) xs a = absurd (omega arith)

given : (ss : List Slice) (xs : List (Unit {0})) → Accepted empties_format ss xs → Accepted empties_format (empties_format.giving ss) xs × AllByRecursion ZeroPadded (empties_format.giving ss)
given ss xs a =
    let s : Slice = slot ss 0 in
    let n : ℕ = word_of s 0 in
    let r = in_bounds (leb n L) (replicate n tt) xs a.reading in
    let one : take 1 s.words ≡ n ∷ [] = take_more s.words 0 0 (least_words_lem 1 0 s a.fitting) in
    rw one (
      record { count = refl; formed = (of_words-formed (n ∷ []) (omega (arith, leb-true n L r.0), tt), tt); fitting = refl; reading = a.reading },
      (of_words_padded (n ∷ []), tt),
    )

pub empties_laws : Laws (λ (_ : Unit {0}). true) empties_format
empties_laws = record {
  shape = λ xs h. (refl, (of_words-formed (length xs ∷ []) (omega (arith, h.1), tt), tt), (of_words_padded (length xs ∷ []), tt));
  return = λ xs h. (refl, rw (le-leb (length xs) L h.1) (ap reads (replicate_unit xs)));
  sound = sound;
  least = least;
  given = given;
}

pub empties_formed : (n : ℕ) → AllByRecursion WellFormed (empties_format.writing (empties_list n))
empties_formed n = (empties_laws.shape (empties_list n) (empties_held n)).1
