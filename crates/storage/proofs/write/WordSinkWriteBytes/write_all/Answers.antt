use Rattle.std.proofs.Common.{◌≡◌, ◌+◌, ◌-◌, ◌*◌, ◌<◌, ◌≤◌, false, leb, length, sym, subst, arith}
use Rattle.std.proofs.lemmas.Bool.{cond-false, lt-leb}
use Rattle.area.specs.Slice.{spill}
use Rattle.area.proofs.SliceLemmas.{length-spill}
use Rattle.storage.proofs.SinkLemmas.{Written, written_none, written_more, answer-whole, taken-whole, room_whole, beyond_whole}
use Rattle.storage.proofs.write.WordSinkWriteBytes.write_all.Goals as goal

pub returns-then-bytes-self : goal.returns-then-bytes-self
returns-then-bytes-self c =
    let s = c.args.self.now in
    let room = length (spill s.area.now) - (8 * s.at + s.part) in
    let no : leb (length c.args.bytes.now) room ≡ false = lt-leb (length c.args.bytes.now) room (omega (arith, length-spill s.area.now)) in
    record {
      answer = sym (cond-false (leb (length c.args.bytes.now) room) _ _ no);
      taken = sym (cond-false (leb (length c.args.bytes.now) room) _ _ no);
      room = sym (cond-false (leb (length c.args.bytes.now) room) _ _ no);
      beyond = sym (cond-false (leb (length c.args.bytes.now) room) _ _ no);
    }

pub loop-byte-init : goal.loop-byte-init
loop-byte-init c =
    let s = c.args.self.now in
    (written_none (spill s.area.now) (8 * s.at + s.part) c.args.bytes.now, omega arith)

pub put-requires : goal.put-requires
put-requires c =
    let t = c.loop-byte in
    omega (arith, t.invariant.1, t.invariant.0.long, length-spill t.self.area.now, length-spill c.args.self.now.area.now)

pub loop-byte-preserved : goal.loop-byte-preserved
loop-byte-preserved c =
    let s = c.args.self.now in
    let bs = c.args.bytes.now in
    let t = c.loop-byte in
    let old = spill s.area.now in
    let a = 8 * s.at + s.part in
    let p = 8 * t.self.at + t.self.part in
    let room : p < length old = omega (arith, t.invariant.1, length-spill s.area.now) in (
      subst (λ xs. Written old a bs xs (t.byte-index + 1)) (sym c.put.ensures.written) (written_more old a bs (spill t.self.area.now) t.byte-index p t.invariant.0 t.invariant.1 c.loop-byte-test.true room),
      omega (arith, c.put.ensures.next, t.invariant.1),
    )

pub returns : goal.returns
returns c =
    let s = c.args.self.now in
    let bs = c.args.bytes.now in
    let t = c.loop-byte in
    let old = spill s.area.now in
    let new = spill t.self.area.now in
    let a = 8 * s.at + s.part in
    let p = 8 * t.self.at + t.self.part in
    let all : t.byte-index ≡ length bs = omega arith in
    let here : p ≡ a + length bs = omega arith in
    let fits : length bs ≤ length old - a = omega (arith, length-spill s.area.now) in
    record {
      answer = answer-whole (record {}) (length old - a) bs fits;
      taken = taken-whole old a bs new t.byte-index p t.invariant.0 all here fits;
      room = room_whole old a bs new t.byte-index p t.invariant.0 all here fits;
      beyond = beyond_whole old a bs new t.byte-index p t.invariant.0 all here fits;
    }
