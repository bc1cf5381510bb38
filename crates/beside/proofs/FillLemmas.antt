-- Columns that are given the elements of numbers.
use Rattle.std.proofs.Common.{◌≡◌, ℕ, true, List, map, Ok, Err, Result, refl, sym, ap}
use Rattle.std.specs.Prelude.{nat_le}
use Rattle.std.specs.List.{list_all}
use Rattle.area.specs.declared.fault.Fault.{Fault}
use Rattle.stash.specs.Stash.{ColumnMembers, Filled}
use Rattle.beside.specs.Fill.{Pushes}

module _ {C E : Type 0} (column : ColumnMembers C E) (most : ℕ) (of : ℕ → E) (ready : C) (ns : List ℕ) where
  -- where all numbers are within the most, the list is the one that they stand for
  pub pushed_by : (h : list_all (λ n. nat_le n most) ns ≡ true) (r : Result C Fault) → Filled column ready (map of ns) r → Pushes column most of ready ns r
  pushed_by h (Ok c) f = (rw (h, f.1.1) (ap Ok (sym f.0)), f.1.0)
  pushed_by h (Err e) f = rw (h, f) refl
