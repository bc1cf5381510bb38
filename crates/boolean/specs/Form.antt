-- The read form of bools over that of the words below: the tail's place, and its bits without the unused ones.
use Rattle.std.specs.Prelude.{◌≡◌, ℕ, ◌%◌, ◌^◌, List, [], ◌∷◌, ◌++◌, Option}
use Rattle.std.proofs.Props.{props}
use Rattle.area.specs.Slice.{Slice}
use Rattle.column.specs.Kind.{word_of}
use Rattle.decode.specs.Decode.{Inside, slice_in}
use Rattle.boolean.specs.Tail.{stored_tail}
use Rattle.boolean.specs.declared.form.BoolsForm.{BoolsForm}
use Rattle.boolean.specs.declared.tail.Tail.{Tail}

-- the tail that a slice's first two words stand for
abbrev pub slice_tail : Slice → Option Tail
slice_tail s = stored_tail (word_of s 0) (word_of s 1)

module _ {F : Type 0} where
  abbrev pub bools_slices : (F → List ℕ → List Slice) → BoolsForm F → List ℕ → List Slice
  bools_slices below t ws = below t.values ws ++ slice_in ws t.place ∷ []

  pub record BoolsKept (below : F → List ℕ → Type 0) (t : BoolsForm F) (ws : List ℕ) : Type 0 where
    pub values : below t.values ws
    pub inside : Inside ws t.place
    pub count : t.tail.count ≡ word_of (slice_in ws t.place) 1
    pub word : t.tail.word ≡ word_of (slice_in ws t.place) 0 % 2 ^ t.tail.count

  pub BoolsKept-prop : (below : F → List ℕ → Type 0) → ((f : F) (ws : List ℕ) → IsProp (below f ws)) → (t : BoolsForm F) (ws : List ℕ) → IsProp (BoolsKept below t ws)
  BoolsKept-prop below once t ws = hlevel (props, once)
