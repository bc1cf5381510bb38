use Rattle.std.proofs.Common.{inl, inr, take, arith}
use Rattle.std.specs.List.{flat_map}
use Rattle.column.proofs.RunLemmas.{one_word, one_word_past}
use Rattle.column.proofs.run.RunAsBytes.slice_word.Goals as goal

pub returns-then-i-ge-MAX_WORDS : goal.returns-then-i-ge-MAX_WORDS
returns-then-i-ge-MAX_WORDS g c =
    one_word_past (flat_map g.T.Element.codec.bytes (take c.args.self.now.len c.args.self.now.cells.now)) c.args.k c.in_ok-bytes.bytes c.args.i c.in_ok-bytes.ensures c.at_start.result
    (elim c.then-i-ge-MAX_WORDS.branch [
      | goal.then-i-ge-MAX_WORDS-via-then-i-ge-MAX_WORDS w ↦ inl w.if-i-ge-MAX_WORDS.true
      | goal.then-i-ge-MAX_WORDS-via-else-i-ge-MAX_WORDS+then-i-bytes w ↦ inr w.if-i-bytes.true
    ])
    c.at_start.ensures

pub returns : goal.returns
returns g c =
    one_word (flat_map g.T.Element.codec.bytes (take c.args.self.now.len c.args.self.now.cells.now)) c.args.k c.in_ok-bytes.bytes c.args.i c.in_ok-bytes.ensures c.word_at.result
    (omega arith) c.word_at.ensures
