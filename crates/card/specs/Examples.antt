-- The worked examples of the format, as one list: what the definitions give, and what they should.
use Rattle.std.specs.Prelude.{◌≡◌, ℕ, ◌^◌, false, List, [], ◌∷◌, replicate, Ok, Err, Result}
use Rattle.std.specs.List.{AllByRecursion}
use Rattle.area.specs.declared.fault.Fault.{Fault}
use Rattle.boolean.specs.Bools.{bools_format, bools_takes, bits_pushed}
use Rattle.column.specs.Column.{cells}
use Rattle.column.specs.Element.{unsigned}
use Rattle.tuple.specs.Empties.{empties_format}
use Rattle.column.specs.Kind.{Format}
use Rattle.column.specs.Run.{run_format, run_takes, word_run}
use Rattle.offsets.specs.Strides.{strides_format, bounds_at}
use Rattle.indexed.specs.Image.{image_of}
use Rattle.read.specs.Admission.{admission}

pub record Example : Type 0 where
  pub given : List ℕ
  pub wanted : List ℕ

-- the image that words are converted to, and the two numbers of an answer of `bounds`
abbrev pub converted : {E : Type 0} → Format E → List ℕ → List ℕ
converted F ws = elim (admission F ws) [ Ok xs ↦ image_of F xs | Err f ↦ [] ]

abbrev pub two_of : Result (ℕ × ℕ) Fault → List ℕ
two_of (Ok p) = p.0 ∷ p.1 ∷ []
two_of (Err f) = []

abbrev pub examples : List Example
examples =
    -- multiples of 3, and then a bound
    record { given = image_of (strides_format word_run) (3 ∷ 6 ∷ 9 ∷ 10 ∷ []); wanted = 24 ∷ 40 ∷ 48 ∷ 3 ∷ 3 ∷ 10 ∷ [] } ∷
    record { given = two_of (bounds_at (3 ∷ 6 ∷ 9 ∷ 10 ∷ []) 3); wanted = 9 ∷ 10 ∷ [] } ∷
    -- multiples of 0
    record { given = image_of (strides_format word_run) (0 ∷ 0 ∷ 0 ∷ []); wanted = 24 ∷ 40 ∷ 40 ∷ 0 ∷ 3 ∷ [] } ∷
    -- twice 2^63 is no word, so 0 does not continue the front
    record { given = image_of (strides_format word_run) (2 ^ 63 ∷ 0 ∷ []); wanted = 24 ∷ 40 ∷ 48 ∷ 2 ^ 63 ∷ 1 ∷ 0 ∷ [] } ∷
    -- 62 times false, and then three bits that complete a word
    record { given = image_of (bools_format word_run) (bits_pushed (bools_takes run_takes (cells 1)) (replicate 62 false) 7 3); wanted = 24 ∷ 32 ∷ 48 ∷ 0xC000000000000000 ∷ 1 ∷ 1 ∷ [] } ∷
    -- three bytes, and zeros after them
    record { given = image_of (run_format (unsigned 1)) (1 ∷ 2 ∷ 3 ∷ []); wanted = 16 ∷ 19 ∷ 0x030201 ∷ [] } ∷
    record { given = image_of empties_format (replicate 7 tt); wanted = 16 ∷ 24 ∷ 7 ∷ [] } ∷
    -- two words of zeros, as multiples of 0
    record { given = image_of (bools_format (strides_format word_run)) (replicate 128 false); wanted = 32 ∷ 48 ∷ 48 ∷ 64 ∷ 0 ∷ 2 ∷ 0 ∷ 0 ∷ [] } ∷
    -- a bound that could be in the head: six words, of which five are left
    record { given = converted (strides_format word_run) (24 ∷ 40 ∷ 48 ∷ 5 ∷ 1 ∷ 10 ∷ []); wanted = 24 ∷ 40 ∷ 40 ∷ 5 ∷ 2 ∷ [] } ∷
    []

abbrev pub ExamplesHold : Type 0
ExamplesHold = AllByRecursion (λ e. e.given ≡ e.wanted) examples
