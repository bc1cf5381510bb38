-- The read form of strides.
use Rattle.std.specs.Prelude.{◌≡◌, ℕ, List, [], ◌∷◌}
use Rattle.area.specs.Slice.{Slice}
use Rattle.column.specs.Kind.{word_of}
use Rattle.decode.specs.Decode.{Inside, slice_in}
use Rattle.offsets.specs.declared.form.StridesForm.{StridesForm}

abbrev pub strides_slices : StridesForm → List ℕ → List Slice
strides_slices t ws = slice_in ws t.place ∷ slice_in ws t.bounds ∷ []

pub record StridesKept (t : StridesForm) (ws : List ℕ) : Type 0 where
  pub inside : Inside ws t.place
  pub stride : t.head.stride ≡ word_of (slice_in ws t.place) 0
  pub length : t.head.length ≡ word_of (slice_in ws t.place) 1
  pub bounds : Inside ws t.bounds
