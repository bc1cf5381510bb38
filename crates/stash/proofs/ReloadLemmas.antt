-- A reload: the area after a table was written to it, from what the sink has taken.
use Rattle.std.proofs.Common.{◌≡◌, ℕ, ◌-◌, Bool, true, false, cond, eqb, List, ◌∷◌, length, take, drop, Ok, Err, Result, sym, refl, ap, ◌∙◌, arith, take-append-drop, length-take}
use Rattle.std.proofs.lemmas.Bool.{leb-false, leb-true, true≢false}
use Rattle.area.specs.Fault.{refuse}
use Rattle.area.specs.declared.fault.Refusal.TheVariants.{ImageTooLong}
use Rattle.storage.specs.declared.write.Full.{Full}
use Rattle.column.specs.Kind.{Format}
use Rattle.storage.specs.declared.write.WriteBytes.{Ghosts as SinkMembers}
use Rattle.indexed.specs.Pieces.{Given, bytes_given, given}
use Rattle.indexed.specs.declared.write.WriteFault.{WriteFault}
use Rattle.indexed.specs.declared.write.WriteFault.TheVariants.{TooLong}
use Rattle.stash.specs.History.{Table, align, bytes, typed}
use Rattle.stash.specs.contracts.landing.LandingWriteBytes.TheImpl.{ghosts}
use Rattle.stash.specs.declared.landing.Landing.{Landing}
use Rattle.stash.specs.Written.{Reloads, TableWritten, has_image, table_pieces}

-- what a table gives a sink, by whether it has an image
module _ {W X E : Type 0} (sink : SinkMembers W X) (F : Format E) where
  table_short : (T : Table E) (s u : W) (r : Result (Unit {0}) (WriteFault X)) → TableWritten sink F T s u r → has_image F T ≡ true → Given sink (table_pieces F T) s u r
  table_short (typed a xs) s u r w h = w.short (leb-true _ _ h)
  table_short (bytes ws) s u r w h = w
  table_short (align ws) s u r w h = w

  table_long : (T : Table E) (s u : W) (r : Result (Unit {0}) (WriteFault X)) → TableWritten sink F T s u r → has_image F T ≡ false → (r ≡ Err (TooLong (refuse ImageTooLong 0))) × (u ≡ s)
  table_long (typed a xs) s u r w h = w.long (leb-false _ _ h)
  table_long (bytes ws) s u r w h = absurd (true≢false h)
  table_long (align ws) s u r w h = absurd (true≢false h)

-- the answer of a reload, by that of the write and the number of bytes that were taken
abbrev pub counted : {X : Type 0} → Result (Unit {0}) X → ℕ → Result ℕ X
counted (Ok u) n = Ok n
counted (Err f) n = Err f

counted-cond : {X : Type 0} (b : Bool) (f : X) (n : ℕ) → counted (cond b (Ok tt) (Err f)) n ≡ cond b (Ok n) (Err f)
counted-cond true f n = refl
counted-cond false f n = refl

-- A landing over the area `before`, of which nothing is taken. Where it still lends the sink that it was made over, this
-- sink has counted what was taken; and where that still has its area, the area after it is what was taken and what was
-- not reached.
module _ {E : Type 0} (F : Format E) (T : Table E) where
  pub landed : (s u : Landing) → s.sink.now.at ≡ 0 → (r : Result (Unit {0}) (WriteFault Full)) → TableWritten ghosts F T s u r → (n : ℕ) (after : List ℕ) → (s.sink.ghost_name ≡ u.sink.ghost_name → n ≡ u.sink.now.at) → (s.sink.ghost_name ≡ u.sink.ghost_name → s.sink.now.area.ghost_name ≡ u.sink.now.area.ghost_name → after ≡ u.sink.now.area.now) → Reloads F T s.sink.now.area.now after (counted r n)
  landed s u z r w n after sink area =
      let before = s.sink.now.area.now in
      let ps = table_pieces F T in
      let bytes = bytes_given (length before) ps in
      let front = take u.sink.now.at u.sink.now.area.now in
      let room : length before - s.sink.now.at ≡ length before = omega arith in
      let count : u.sink.now.at ≡ length front = let k = u.sink.now.within in omega (arith, length-take u.sink.now.at u.sink.now.area.now) in
      record {
        short = λ h.
            let v = table_short ghosts F T s u r w h in
            let all : u.sink.ghost_name ∷ (u.sink.now.area.ghost_name ∷ front) ≡ s.sink.ghost_name ∷ (s.sink.now.area.ghost_name ∷ bytes) = v.1.bytes ∙ rw (room, z) in
            let f : front ≡ bytes = cc in
            let rest : drop u.sink.now.at u.sink.now.area.now ≡ drop (length bytes) before = v.1.rest ∙ rw (room, z) in
            let m : n ≡ length bytes = sink (cc) ∙ count ∙ ap length f in (
              rw (v.0, room, m) (counted-cond (eqb (given (length before) ps) (length ps)) _ _),
              area (cc) (cc) ∙ sym (take-append-drop u.sink.now.at u.sink.now.area.now) ∙ rw (f, rest),
            );
        long = λ h.
            let v = table_long ghosts F T s u r w h in
            let e = v.1 in
            (rw v.0, area (cc) (cc) ∙ cc);
      }
