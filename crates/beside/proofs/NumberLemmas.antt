-- Lists of elements that numbers stand for.
use Rattle.std.proofs.Common.{◌≡◌, ℕ, zero, suc, ◌<◌, ◌≤◌, List, [], ◌∷◌, map, length, Ok, Err, refl, ap, arith}
use Rattle.std.specs.Prelude.{slice_index}
use Rattle.area.specs.Fault.{refuse}
use Rattle.area.specs.declared.fault.Refusal.TheVariants.{OutOfRange}
use Rattle.column.specs.Column.{element}

pub length_numbers : {X Y : Type 0} (f : X → Y) (xs : List X) → length xs ≡ length (map f xs)
length_numbers f [] = refl
length_numbers f (x ∷ xs) = ap suc (length_numbers f xs)

pub element_in : {E : Type 0} (f : ℕ → E) (ns : List ℕ) (i : ℕ) → i < length ns → Ok (f (slice_index ns i)) ≡ element (map f ns) i
element_in f [] i h = absurd (omega arith)
element_in f (n ∷ ns) zero h = refl
element_in f (n ∷ ns) (suc i) h = element_in f ns i (omega arith)

pub element_beyond : {E : Type 0} (f : ℕ → E) (ns : List ℕ) (i : ℕ) → length ns ≤ i → Err (refuse OutOfRange 0) ≡ element (map f ns) i
element_beyond f [] i h = refl
element_beyond f (n ∷ ns) zero h = absurd (omega arith)
element_beyond f (n ∷ ns) (suc i) h = element_beyond f ns i (omega arith)
