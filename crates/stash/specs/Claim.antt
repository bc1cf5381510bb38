-- What is claimed of the image that a conversion writes, for any kind and any history.
use Rattle.std.specs.Prelude.{◌≡◌, ℕ, ◌^◌, ◌<◌, ◌≤◌, Bool, List, length, Ok}
use Rattle.std.specs.List.{AllByRecursion}
use Rattle.column.specs.Column.{Areas}
use Rattle.column.specs.Kind.{CAP, Format}
use Rattle.indexed.specs.Image.{image_of}
use Rattle.read.specs.Admission.{admission}
use Rattle.stash.specs.History.{History, Table}

module _ {E : Type 0} (fits : E → Bool) (F : Format E) where
  -- A converted table: a history that records xs, a `make_typed` and a write that were accepted, and so an image ws of the
  -- column that holds xs. The column takes by t.
  pub record Converted (t : Areas → List E → E → Bool) (T : Table E) (xs : List E) (ws : List ℕ) : Type 0 where
    pub history : History F t fits T xs
    pub image : ws ≡ image_of F xs
    pub short : length ws ≤ CAP

  pub record Claim (xs : List E) (ws : List ℕ) : Type 0 where
    -- the image is admitted, whichever store gives its words, and reads as exactly the list that the history records
    pub admitted : admission F ws ≡ Ok xs
    -- any other converted table of the kind has an equal image exactly where its history records an equal list
    pub same : (t : Areas → List E → E → Bool) (T : Table E) (ys : List E) (vs : List ℕ) → Converted t T ys vs → (vs ≡ ws → ys ≡ xs) × (ys ≡ xs → vs ≡ ws)
    -- every image that is admitted and reads as the list has at least as many words
    pub least : (vs : List ℕ) → AllByRecursion (λ w. w < 2 ^ 64) vs → admission F vs ≡ Ok xs → length ws ≤ length vs
