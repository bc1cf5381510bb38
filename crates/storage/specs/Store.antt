-- Stores: lists of words, and what becomes one.
use Rattle.std.specs.Prelude.{◌≡◌, ℕ, ◌/◌, ◌%◌, Bool, true, false, ◌&&◌, List, map, length, Ok, Err, Result, ◌==◌, nat_le}
use Rattle.area.specs.Digits.{number, chunks}
use Rattle.area.specs.Fault.{refuse}
use Rattle.area.specs.declared.fault.Fault.{Fault}
use Rattle.area.specs.declared.fault.Refusal.TheVariants.{ByteLength}

-- the words of bytes eight by eight; bytes after the last eight are left out
abbrev pub join_words : List ℕ → List ℕ
join_words bs = map (number 256) (chunks 8 (length bs / 8) bs)

-- bytes whose length an image can have become a store of just these bytes; others are refused with 1
abbrev pub length_stands : List ℕ → Bool
length_stands bs = length bs % 8 == 0 && nat_le (length bs) 4294967288

abbrev pub StoreLike : {S : Type 0} → Result S Fault → (S → List ℕ) → List ℕ → Type 0
StoreLike (Ok s) f bs = (length_stands bs ≡ true) × (f s ≡ bs)
StoreLike (Err e) f bs = (length_stands bs ≡ false) × (e ≡ refuse ByteLength 0)
