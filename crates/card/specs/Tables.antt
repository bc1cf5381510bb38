-- The program `tables`: what a run of records makes of a table, and which lines it prints.
use Rattle.std.specs.Prelude.{◌≡◌, ℕ, ◌+◌, Bool, true, false, cond, List, [], ◌∷◌, ◌++◌, map, length, is_some, Some, None, Ok, Err, Option, codes, decimal}
use Rattle.std.specs.Fmt.{digits}
use Rattle.std.specs.List.{AllByRecursion}
use Rattle.area.specs.Fault.{number_of}
use Rattle.area.specs.Slice.{Slice}
use Rattle.area.specs.declared.fault.Refusal.TheVariants.{NotTaken, UnknownRecord}
use Rattle.column.specs.Column.{pushed}
use Rattle.indexed.specs.Image.{image, encode_answer}
use Rattle.card.specs.declared.line.Line.{Line}
use Rattle.card.specs.declared.line.Line.TheVariants.{Accepted, Refused, ImageOf, Word}
use Rattle.card.specs.declared.record.Record.{Record}
use Rattle.card.specs.declared.record.Record.TheVariants.{Push, Clear, Image}

-- a line as it is printed: a word of an image in hexadecimal digits, every other number in decimal ones
abbrev pub line_text : Line → List ℕ
line_text (Accepted n) = codes "ok " ++ decimal n
line_text (Refused q n) = codes "refused " ++ (decimal (number_of q) ++ (codes " " ++ decimal n))
line_text (ImageOf n) = codes "image " ++ decimal n
line_text (Word w) = digits 16 false w

-- the lines of an image that is written to an area, or of its refusal at a table of n elements
abbrev pub lines_of_image : List Slice → List ℕ → ℕ → List Line
lines_of_image ss area n = elim (encode_answer ss area 0) [ Ok k ↦ ImageOf k ∷ map Word (image ss) | Err f ↦ Refused f.refusal n ∷ [] ]

-- every record of an input could be read
abbrev pub AllRead : {E : Type 0} → List (Option (Record E)) → Type 0
AllRead = AllByRecursion (λ r. is_some r ≡ true)

-- t says what a table takes next, w how a list is written, and `area` is lent for images
module _ {E : Type 0} (t : List E → E → Bool) (w : List E → List Slice) (area : List ℕ) where
  -- the list after a record, and the lines that it prints
  abbrev pub after : List E → Record E → List E
  after xs (Push x) = pushed (t xs x) xs x
  after xs Clear = []
  after xs Image = xs

  abbrev pub answer : List E → Record E → List Line
  answer xs (Push x) = cond (t xs x) (Accepted (length xs + 1)) (Refused NotTaken (length xs)) ∷ []
  answer xs Clear = Accepted 0 ∷ []
  answer xs Image = lines_of_image (w xs) area (length xs)

  -- the same of a run of records; what is no record is refused with 17 and ends it
  abbrev pub list_after : List E → List (Option (Record E)) → List E
  list_after xs [] = xs
  list_after xs (None ∷ rs) = xs
  list_after xs (Some r ∷ rs) = list_after (after xs r) rs

  abbrev pub lines_of : List E → List (Option (Record E)) → List Line
  lines_of xs [] = []
  lines_of xs (None ∷ rs) = Refused UnknownRecord (length xs) ∷ []
  lines_of xs (Some r ∷ rs) = answer xs r ++ lines_of (after xs r) rs

  -- Laws over whole runs. rs are records that could all be read.
  pub record Runs : Type 0 where
    -- a run goes on from the list that the run before it left
    pub goes_on : (xs : List E) (rs ss : List (Option (Record E))) → AllRead rs → list_after xs (rs ++ ss) ≡ list_after (list_after xs rs) ss
    -- after a clear nothing of what was before counts
    pub cleared : (xs : List E) (rs ss : List (Option (Record E))) → AllRead rs → list_after xs (rs ++ Some Clear ∷ ss) ≡ list_after [] ss
    -- the image that is printed is the image of the list at that point, and the list stays
    pub shown : (xs : List E) (rs ss : List (Option (Record E))) → AllRead rs → lines_of xs (rs ++ Some Image ∷ ss) ≡ lines_of xs rs ++ (lines_of_image (w (list_after xs rs)) area (length (list_after xs rs)) ++ lines_of (list_after xs rs) ss)
    -- what is no record is refused with 17, and nothing after it is answered
    pub ended : (xs : List E) (rs ss : List (Option (Record E))) → AllRead rs → lines_of xs (rs ++ None ∷ ss) ≡ lines_of xs rs ++ Refused UnknownRecord (length (list_after xs rs)) ∷ []
