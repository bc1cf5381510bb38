-- The boot step: bytes that are admitted with a list, and the start of an area that is made the image of that list.
use Rattle.std.specs.Prelude.{◌≡◌, ℕ, ◌*◌, ◌^◌, Bool, true, cond, ◌&&◌, List, [], ◌++◌, length, drop, Ok, Err, Result, nat_lt}
use Rattle.area.specs.Fault.{number_of, refuse}
use Rattle.area.specs.Slice.{spill}
use Rattle.area.specs.declared.fault.Fault.{Fault}
use Rattle.area.specs.declared.fault.Refusal.TheVariants.{ByteLength}
use Rattle.storage.specs.Store.{join_words, length_stands}
use Rattle.storage.specs.declared.write.Full.{Full}
use Rattle.column.specs.Column.{append_answer, beside, cells, none}
use Rattle.indexed.specs.Image.{image_of}
use Rattle.column.specs.Kind.{Format}
use Rattle.offsets.specs.Strides.{strides_takes}
use Rattle.boolean.specs.Bools.{bools_takes}
use Rattle.tuple.specs.Empties.{empties_format, empties_takes}
use Rattle.card.specs.Block.{block_format, block_takes}
use Rattle.kinds.specs.Kinds.{erase_format, kind_numbered}
use Rattle.kinds.specs.declared.kinds.CardKind.{CardKind}
use Rattle.kinds.specs.declared.kinds.CardKind.TheVariants.{BlockTable, EraseMap, SpareCount}
use Rattle.read.specs.Admission.{admission}
use Rattle.stash.specs.Claim.{Claim}
use Rattle.stash.specs.Convert.{carried}
use Rattle.stash.specs.History.{typed}
use Rattle.stash.specs.Written.{Reloads}
use Rattle.stash.specs.declared.convert.ConvertFault.{ConvertFault}
use Rattle.stash.specs.declared.convert.ConvertFault.TheVariants.{Refused, Write}
use Rattle.boot.specs.declared.convert.Done.{Done}

-- the list that bytes are admitted with, or the first question that they fail
abbrev pub list_admitted : {E : Type 0} → Format E → List ℕ → Result (List E) Fault
list_admitted F bs = cond (length_stands bs) (admission F (join_words bs)) (Err (refuse ByteLength 0))

-- for a kind, in a column that takes by t
module _ {E : Type 0} (fits : E → Bool) (F : Format E) (t : List E → E → Bool) where
  -- the area begins with the image of the list xs, for which the claim holds, and nothing else of it changes
  pub record Booted (xs : List E) (was area : List ℕ) (d : Done) : Type 0 where
    pub elements : d.length ≡ length xs
    pub size : d.bytes ≡ 8 * length (image_of F xs)
    pub image : area ≡ spill (image_of F xs) ++ drop d.bytes was
    pub claim : Claim fits F xs (image_of F xs)

  -- What is answered for a list, and how the area changes. A column that does not take it leaves the area. A write that is
  -- refused leaves the pieces of the image before the one that does not fit.
  abbrev pub ListBoots : List E → List ℕ → List ℕ → Result Done (ConvertFault Full) → Type 0
  ListBoots xs was area (Ok d) = (append_answer t [] xs ≡ Ok tt) × Booted xs was area d
  ListBoots xs was area (Err (Refused f)) = (append_answer t [] xs ≡ Err f) × (area ≡ was)
  ListBoots xs was area (Err (Write f)) = (append_answer t [] xs ≡ Ok tt) × Reloads F (typed none xs) was area (Err f)

  -- bytes that are not admitted are refused with the first question that they fail, and leave the area
  abbrev pub Boots : List ℕ → List ℕ → List ℕ → Result Done (ConvertFault Full) → Type 0
  Boots bs was area r = elim (list_admitted F bs) [ Ok xs ↦ ListBoots xs was area r | Err f ↦ (r ≡ Err (Refused f)) × (area ≡ was) ]

-- the same for a kind of the card, in e cells for bounds, b for words of marks and w for wear classes
abbrev pub CardBoots : CardKind → List ℕ → ℕ → ℕ → ℕ → List ℕ → List ℕ → Result Done (ConvertFault Full) → Type 0
CardBoots BlockTable bs e b w was area r = Boots (λ p. nat_lt p.0 (2 ^ 64) && (true && nat_lt p.1.1 (2 ^ 8))) block_format (block_takes (beside (cells e) (beside (cells b) (cells w)))) bs was area r
CardBoots EraseMap bs e b w was area r = Boots (λ x. true) erase_format (bools_takes strides_takes (cells e)) bs was area r
CardBoots SpareCount bs e b w was area r = Boots (λ x. true) empties_format (empties_takes none) bs was area r

-- the same for the kind of a number: 17 where it has none
abbrev pub NumberBoots : ℕ → List ℕ → ℕ → ℕ → ℕ → List ℕ → List ℕ → Result Done (ConvertFault Full) → Type 0
NumberBoots n bs e b w was area r = elim (kind_numbered n) [ Ok k ↦ CardBoots k bs e b w was area r | Err f ↦ (r ≡ Err (Refused f)) × (area ≡ was) ]

-- what C is answered for it: 0, or else the number of the refusal, and the image's length in bytes, which a refusal leaves
abbrev pub boot_number : Result Done (ConvertFault Full) → ℕ
boot_number (Ok d) = 0
boot_number (Err f) = number_of (carried f).refusal

abbrev pub boot_bytes : ℕ → Result Done (ConvertFault Full) → ℕ
boot_bytes l (Ok d) = d.bytes
boot_bytes l (Err f) = l

abbrev pub ImageBoots : ℕ → List ℕ → ℕ → ℕ → ℕ → List ℕ → List ℕ → ℕ → ℕ → ℕ → Type 0
ImageBoots n bs e b w was area l m code = (r : Result Done (ConvertFault Full)) × NumberBoots n bs e b w was area r × (code ≡ boot_number r) × (m ≡ boot_bytes l r)
