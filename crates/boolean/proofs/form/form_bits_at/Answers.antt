-- The bits at a place stand in one word, or in two.
use Rattle.std.proofs.Common.{◌≡◌, ◌+◌, ◌-◌, ◌^◌, ◌≤◌, length, ap, ◌∙◌, arith}
use Rattle.std.proofs.lemmas.Nat.{one_shl}
use Rattle.read.specs.Form.{list_of}
use Rattle.boolean.specs.Bools.{bools_list, range_bits}
use Rattle.boolean.proofs.BitsLemmas.{Reads, read_one, read_two, masked}
use Rattle.boolean.proofs.FormLemmas.{below}
use Rattle.boolean.proofs.form.form_bits_at.Goals as goal
use Rattle.boolean.proofs.form.form_bits_at.Goals.{then-bit-count-gt64, else-bit-count-gt64, then-count-lt64, else-count-lt64}

pub returns : goal.returns
returns g c s =
    let t = c.args.form.now in
    let stored = g.S.Store.words c.args.store.now in
    let b = below g.C.ReadForm.slices g.C.ReadForm.kept g.C.Kind.format t stored s in
    let ws = list_of g.C.Kind.format (g.C.ReadForm.slices t.values stored) in
    let i = c.args.pos in
    let m = c.args.count in
    let inside : i + m ≤ length (bools_list ws t.tail) = omega (arith, c.form_len-len.ensures stored s, ap length b.list) in
    let reads : Reads (bools_list ws t.tail) i m c.if-bit-count-gt64.word = elim c.if-bit-count-gt64.branch [
      | then-bit-count-gt64 w ↦ read_two ws t.tail.count t.tail.word b.few b.clean i m inside c.word_at.result (c.word_at.ensures b.values) c.word_at.type_inv (omega arith) (omega arith) _ (w.word_at-then-bit-count-gt64.ensures b.values) w.word_at-then-bit-count-gt64.type_inv _ w.word-is
      | else-bit-count-gt64 w ↦ read_one ws t.tail.count t.tail.word b.few b.clean i m inside c.word_at.result (c.word_at.ensures b.values) c.word_at.type_inv (omega arith) _ w.word-is
    ] in
    let mask : c.if-count-lt64.mask ≡ 2 ^ m - 1 = elim c.if-count-lt64.branch [
      | then-count-lt64 w ↦ w.mask-is ∙ ap (λ p. p - 1) (one_shl m 64 w.if-count-lt64.true)
      | else-count-lt64 w ↦ let e : m ≡ 64 = omega arith in rw e w.mask-is
    ] in
    masked _ i m _ reads inside (omega arith) _ mask ∙ ap (λ xs. range_bits xs i m) b.list
