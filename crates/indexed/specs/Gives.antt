-- What the writers say of a part of an image's pieces: all of them were given, or one did not fit.
use Rattle.std.specs.Prelude.{◌≡◌, ℕ, ◌+◌, ◌-◌, ◌<◌, ◌≤◌, min, List, ◌∷◌, ◌++◌, length, drop, Result, MatchResult}
use Rattle.area.specs.Fault.{refuse}
use Rattle.area.specs.declared.fault.Refusal.TheVariants.{NoRoom}
use Rattle.storage.specs.declared.write.WriteBytes.{Ghosts as SinkMembers}
use Rattle.indexed.specs.Pieces.{joined}
use Rattle.indexed.specs.declared.write.Counted.{Counted}
use Rattle.indexed.specs.declared.write.WriteFault.{WriteFault}
use Rattle.indexed.specs.declared.write.WriteFault.TheVariants.{Full}

-- a number as a counter has it, which stays at the largest
abbrev pub capped : ℕ → ℕ
capped n = min n 18446744073709551615

-- over a sink by its members; c is the counted sink before, and d after
module _ {W F : Type 0} (sink : SinkMembers W F) where
  -- all pieces were given, and counted
  pub record Took (ps : List (List ℕ)) (c d : Counted W) : Type 0 where
    pub same : d.sink.ghost_name ≡ c.sink.ghost_name
    pub count : capped d.piece ≡ capped (c.piece + length ps)
    pub fits : length (joined ps) ≤ sink.room c.sink.now
    pub bytes : sink.taken d.sink.now ≡ sink.taken c.sink.now ++ joined ps
    pub left : sink.room d.sink.now ≡ sink.room c.sink.now - length (joined ps)
    pub rest : sink.beyond d.sink.now ≡ drop (length (joined ps)) (sink.beyond c.sink.now)

  -- the pieces before one were given, and that one does not fit
  pub record Stopped (ps : List (List ℕ)) (c d : Counted W) (f : WriteFault F) : Type 0 where
    pub front : List (List ℕ)
    pub piece : List ℕ
    pub others : List (List ℕ)
    pub split : ps ≡ front ++ piece ∷ others
    pub took : Took front c d
    pub full : sink.room d.sink.now < length piece
    pub answer : f ≡ Full (refuse NoRoom d.piece) (sink.fault d.sink.now piece)

  -- what a writer of ps answers
  abbrev pub Gives : List (List ℕ) → Counted W → Counted W → Result (Unit {0}) (WriteFault F) → Type 0
  Gives ps c d r = MatchResult r (λ _. Took ps c d) (λ f. Stopped ps c d f)
