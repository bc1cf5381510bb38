-- Sinks: a piece is taken whole exactly when it is no longer than the room.
use Rattle.std.specs.Prelude.{ℕ, ◌+◌, ◌-◌, min, cond, List, ◌++◌, length, drop, Ok, Err, Result, nat_le}
use Rattle.storage.specs.declared.write.QuotaFault.{QuotaFault}
use Rattle.storage.specs.declared.write.QuotaFault.TheVariants.{Limit, Under}

-- what a sink with this room answers to a piece, and the bytes taken, the room and the bytes not reached after it
abbrev pub piece_answer : {F : Type 0} → ℕ → List ℕ → F → Result (Unit {0}) F
piece_answer room bs f = cond (nat_le (length bs) room) (Ok tt) (Err f)

abbrev pub taking : ℕ → List ℕ → List ℕ → List ℕ
taking room taken bs = cond (nat_le (length bs) room) (taken ++ bs) taken

abbrev pub room_after : ℕ → List ℕ → ℕ
room_after room bs = cond (nat_le (length bs) room) (room - length bs) room

abbrev pub leaving : ℕ → List ℕ → List ℕ → List ℕ
leaving room beyond bs = cond (nat_le (length bs) room) (drop (length bs) beyond) beyond

-- the bytes that a quota has counted after a piece
abbrev pub counting : ℕ → ℕ → List ℕ → ℕ
counting room n bs = cond (nat_le (length bs) room) (n + length bs) n

-- a quota's room is the smaller of what the limit leaves and the room below
abbrev pub quota_room : ℕ → ℕ → ℕ → ℕ
quota_room limit count room = min (limit - count) room

-- a quota's fault is its own where what the limit leaves is short, else the one below
abbrev pub quota_fault : {F : Type 0} → ℕ → List ℕ → F → QuotaFault F
quota_fault left bs f = cond (nat_le (length bs) left) (Under f) Limit
