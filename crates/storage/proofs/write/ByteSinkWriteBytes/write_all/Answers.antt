use Rattle.std.proofs.Common.{◌+◌, ◌-◌, ◌≤◌, length, sym, ◌∙◌, arith, drop-drop}
use Rattle.std.proofs.lemmas.Slice.{drop-put_mid}
use Rattle.std.proofs.lemmas.List.{drop-set-lt}
use Rattle.std.proofs.lemmas.Bool.{le-leb}
use Rattle.storage.proofs.write.ByteSinkWriteBytes.write_all.Goals as goal
use Rattle.storage.proofs.write.ByteSinkWriteBytes.write_all.Goals.{in-len1, in_default}

-- what stands after the piece is as it was, after one byte and after a copy
pub returns-clause-beyond : goal.returns-clause-beyond
returns-clause-beyond c =
    let s = c.args.self.now in
    let n = length c.args.bytes.now in
    let fits : n ≤ length s.area.now - s.at = omega arith in
    rw (le-leb _ _ fits)
    ((elim c.if-bytes-lt1.branch [
      | in-len1 w ↦ rw w.self-is (drop-set-lt (s.at + n) s.area.now s.at _ (omega (arith, w.in-len1)))
      | in_default w ↦ rw w.self-is (drop-put_mid s.at (s.at + n - s.at) s.area.now w.copy_from_slice.new.self (s.at + n) (omega arith) (omega arith) (omega (arith, w.copy_from_slice.ensures.len)))
    ])
    ∙ sym (drop-drop n s.at s.area.now))
