-- A run of records goes on from where the run before it ended.
use Rattle.std.proofs.Common.{◌≡◌, ℕ, Bool, List, [], ◌∷◌, ◌++◌, Some, None, Option, sym, refl, ap, ◌∙◌, append_assoc}
use Rattle.std.proofs.lemmas.Bool.{false≢true}
use Rattle.area.specs.Slice.{Slice}
use Rattle.card.specs.Tables.{AllRead, Runs, after, answer, list_after, lines_of}
use Rattle.card.specs.declared.record.Record.{Record}
use Rattle.card.specs.declared.record.Record.TheVariants.{Clear, Image}

module _ {E : Type 0} (t : List E → E → Bool) (w : List E → List Slice) (area : List ℕ) where
  list_joined : (xs : List E) (rs ss : List (Option (Record E))) → AllRead rs → list_after t w area xs (rs ++ ss) ≡ list_after t w area (list_after t w area xs rs) ss
  list_joined xs [] ss h = refl
  list_joined xs (Some r ∷ rs) ss h = list_joined (after t w area xs r) rs ss h.1
  list_joined xs (None ∷ rs) ss h = absurd (false≢true h.0)

  lines_joined : (xs : List E) (rs ss : List (Option (Record E))) → AllRead rs → lines_of t w area xs (rs ++ ss) ≡ lines_of t w area xs rs ++ lines_of t w area (list_after t w area xs rs) ss
  lines_joined xs [] ss h = refl
  lines_joined xs (Some r ∷ rs) ss h =
      ap (λ ls. answer t w area xs r ++ ls) (lines_joined (after t w area xs r) rs ss h.1)
      ∙ sym (append_assoc (answer t w area xs r) (lines_of t w area (after t w area xs r) rs) (lines_of t w area (list_after t w area (after t w area xs r) rs) ss))
  lines_joined xs (None ∷ rs) ss h = absurd (false≢true h.0)

  pub runs : Runs t w area
  runs = record {
    goes_on = list_joined;
    cleared = λ xs rs ss. list_joined xs rs (Some Clear ∷ ss);
    shown = λ xs rs ss. lines_joined xs rs (Some Image ∷ ss);
    ended = λ xs rs ss. lines_joined xs rs (None ∷ ss);
  }
