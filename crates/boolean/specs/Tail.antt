-- The tail of bools: the `count` lowest bits of a word.
use Rattle.std.specs.Prelude.{ℕ, ◌%◌, ◌^◌, cond, Some, None, Option, nat_le}
use Rattle.boolean.specs.declared.tail.Tail.{Tail}

-- the tail that a stored word and count stand for: unused bits are 0
abbrev pub stored_tail : ℕ → ℕ → Option Tail
stored_tail w n = cond (nat_le n 63) (Some (record { word = w % 2 ^ n; count = n })) None
