-- An image as pieces for a sink, and what a sink that takes them one after the other is left with.
use Rattle.std.specs.Prelude.{◌≡◌, ℕ, zero, suc, ◌-◌, ◌%◌, ◌<◌, ◌≤◌, cond, List, [], ◌∷◌, ◌++◌, map, length, take, drop, replicate, Ok, Err, Result, ◌==◌, nat_le, slice_index_or}
use Rattle.std.specs.List.{flat_map, AllByRecursion}
use Rattle.area.specs.Digits.{digits, chunks}
use Rattle.area.specs.Fault.{refuse}
use Rattle.area.specs.Slice.{Slice, ZeroPadded, words_for, contents, spill}
use Rattle.area.specs.declared.fault.Fault.{Fault}
use Rattle.area.specs.declared.fault.Refusal.TheVariants.{NoRoom, ImageTooLong}
use Rattle.column.specs.Kind.{CAP}
use Rattle.storage.specs.declared.write.WriteBytes.{Ghosts as SinkMembers}
use Rattle.indexed.specs.Image.{image, index}
use Rattle.indexed.specs.declared.write.WriteFault.{WriteFault}
use Rattle.indexed.specs.declared.write.WriteFault.TheVariants.{TooLong, Full}

-- the refusal that a fault of a write carries
abbrev pub refusal_of : {F : Type 0} → WriteFault F → Fault
refusal_of (TooLong f) = f
refusal_of (Full f e) = f

-- the bytes of pieces in order
abbrev pub joined : List (List ℕ) → List ℕ
joined = flat_map (λ p. p)

-- the padding after a slice's last word, of which n bytes count
abbrev pub padding : ℕ → List (List ℕ)
padding zero = []
padding (suc n) = replicate (8 - suc n) 0 ∷ []

-- each word of a slice, the last cut, and the padding
abbrev pub slice_pieces : Slice → List (List ℕ)
slice_pieces s = chunks 8 (words_for s.bytes) (contents s) ++ padding (s.bytes % 8)

abbrev pub pieces : List Slice → List (List ℕ)
pieces ss = map (digits 256 8) (index ss) ++ flat_map slice_pieces ss

-- how many pieces a sink with this room takes, up to the first that is longer than what is left
abbrev pub given : ℕ → List (List ℕ) → ℕ
given room [] = 0
given room (p ∷ ps) = cond (nat_le (length p) room) (suc (given (room - length p) ps)) 0

-- the bytes of the pieces that are taken
abbrev pub bytes_given : ℕ → List (List ℕ) → List ℕ
bytes_given room ps = joined (take (given room ps) ps)

-- over a sink by its members; s before and t after
module _ {W F : Type 0} (sink : SinkMembers W F) where
  -- pieces were given in order, as many as fit
  pub record Gave (ps : List (List ℕ)) (s t : W) : Type 0 where
    pub bytes : sink.taken t ≡ sink.taken s ++ bytes_given (sink.room s) ps
    pub left : sink.room t ≡ sink.room s - length (bytes_given (sink.room s) ps)
    pub rest : sink.beyond t ≡ drop (length (bytes_given (sink.room s) ps)) (sink.beyond s)

  -- the answer: 14 with the number of the first piece that does not fit, and the fault of the sink at that piece
  abbrev pub give_answer : List (List ℕ) → W → W → Result (Unit {0}) (WriteFault F)
  give_answer ps s t = cond (given (sink.room s) ps == length ps) (Ok tt) (Err (Full (refuse NoRoom (given (sink.room s) ps)) (sink.fault t (slice_index_or ps (given (sink.room s) ps) []))))

  abbrev pub Given : List (List ℕ) → W → W → Result (Unit {0}) (WriteFault F) → Type 0
  Given ps s t r = (r ≡ give_answer ps s t) × Gave ps s t

  -- An image of at most CAP words is given piece by piece; any other is refused with 15 and nothing is given. Where all
  -- of it was taken and the slices are zero padded, the sink has the bytes of the image's words.
  pub record Written (ss : List Slice) (s t : W) (r : Result (Unit {0}) (WriteFault F)) : Type 0 where
    pub short : length (image ss) ≤ CAP → (r ≡ give_answer (pieces ss) s t) × Gave (pieces ss) s t
    pub whole : r ≡ Ok tt → AllByRecursion ZeroPadded ss → sink.taken t ≡ sink.taken s ++ spill (image ss)
    pub long : CAP < length (image ss) → (r ≡ Err (TooLong (refuse ImageTooLong 0))) × (t ≡ s)
