-- A shift by fewer than 64 leaves 0 exactly when the number fits the bits.
use Rattle.std.proofs.Common.{◌^◌, ⊎_elim, arith}
use native.Mathlib.Nat.{div-eq_of_lt}
use Rattle.std.proofs.lemmas.Nat.{le-div, pow_pos}
use Rattle.std.proofs.lemmas.Bool.{cases_lt, le-leb, le-ltb, lt-ltb, ne_eqb}
use Rattle.boolean.proofs.bools.bits_given.Goals as goal

pub returns-then-count-lt64 : goal.returns-then-count-lt64
returns-then-count-lt64 c =
    let b = c.args.bits in
    let m = c.args.count in
    rw (le-leb m 64 (omega arith))
    (⊎_elim
    (λ l. rw (div-eq_of_lt l, lt-ltb b (2 ^ m) l))
    (λ l. rw (le-ltb b (2 ^ m) l) (ne_eqb _ 0 (omega (arith, le-div 1 b (2 ^ m) (pow_pos m) (omega arith)))))
    (cases_lt b (2 ^ m)))
