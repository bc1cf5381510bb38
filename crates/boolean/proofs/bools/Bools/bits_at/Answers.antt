-- The bits at a place stand in one word, or in two.
use Rattle.std.proofs.Common.{◌≡◌, ◌+◌, ◌-◌, ◌^◌, ◌≤◌, length, ap, ◌∙◌, arith}
use Rattle.std.proofs.lemmas.Nat.{one_shl}
use Rattle.boolean.specs.Bools.{bools_list}
use Rattle.boolean.proofs.BitsLemmas.{Reads, read_one, read_two, masked}
use Rattle.boolean.proofs.bools.Bools.bits_at.Goals as goal
use Rattle.boolean.proofs.bools.Bools.bits_at.Goals.{then-bit-count-gt64, else-bit-count-gt64, then-count-lt64, else-count-lt64}

pub returns : goal.returns
returns g c =
    let ws = g.C.Index.list c.args.self.now.values in
    let t = c.args.self.now.tail in
    let i = c.args.pos in
    let m = c.args.count in
    let inside : i + m ≤ length (bools_list ws t) = omega (arith, c.len-len.ensures) in
    let reads : Reads (bools_list ws t) i m c.if-bit-count-gt64.word = elim c.if-bit-count-gt64.branch [
      | then-bit-count-gt64 w ↦ read_two ws t.count t.word c.args.self.now.few c.args.self.now.clean i m inside c.word.result c.word.ensures c.word.type_inv (omega arith) (omega arith) _ w.word-then-bit-count-gt64.ensures w.word-then-bit-count-gt64.type_inv _ w.word-is
      | else-bit-count-gt64 w ↦ read_one ws t.count t.word c.args.self.now.few c.args.self.now.clean i m inside c.word.result c.word.ensures c.word.type_inv (omega arith) _ w.word-is
    ] in
    let mask : c.if-count-lt64.mask ≡ 2 ^ m - 1 = elim c.if-count-lt64.branch [
      | then-count-lt64 w ↦ w.mask-is ∙ ap (λ p. p - 1) (one_shl m 64 w.if-count-lt64.true)
      | else-count-lt64 w ↦ let e : m ≡ 64 = omega arith in rw e w.mask-is
    ] in
    masked _ i m _ reads inside (omega arith) _ mask
