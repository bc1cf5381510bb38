-- The read forms of empties and of pairs.
use Rattle.std.specs.Prelude.{◌≡◌, ℕ, List, ◌++◌, length}
use Rattle.area.specs.Slice.{Slice}
use Rattle.column.specs.Kind.{word_of}
use Rattle.decode.specs.Decode.{Inside, slice_in}
use Rattle.read.specs.declared.form.ReadForm.{Ghosts as FormMembers}
use Rattle.tuple.specs.declared.form.EmptiesForm.{EmptiesForm}
use Rattle.tuple.specs.declared.form.PairForm.{PairForm}

pub record EmptiesKept (t : EmptiesForm) (ws : List ℕ) : Type 0 where
  pub inside : Inside ws t.place
  pub count : t.count.count ≡ word_of (slice_in ws t.place) 0

-- the slices of the first side, then those of the second
module _ {K J X Y A B : Type 0} (left : FormMembers K X A) (right : FormMembers J Y B) where
  abbrev pub pair_slices : PairForm X Y → List ℕ → List Slice
  pair_slices t ws = left.slices t.first ws ++ right.slices t.second ws

  -- n is how many slices the first side has: without it the joint slices would not say where they part
  pub record PairKept (n : ℕ) (t : PairForm X Y) (ws : List ℕ) : Type 0 where
    pub first : left.kept t.first ws
    pub second : right.kept t.second ws
    pub count : length (left.slices t.first ws) ≡ n
