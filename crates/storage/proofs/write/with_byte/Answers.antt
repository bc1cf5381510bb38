use Rattle.std.proofs.Common.{sym, ◌∙◌, arith}
use Rattle.storage.proofs.SinkLemmas.{bytes_of, byte_set}
use Rattle.storage.proofs.write.with_byte.Goals as goal

pub returns : goal.returns
returns c =
    let split = c.to_le_bytes-bytes in
    byte_set c.args.word c.args.j c.args.byte c.from_le_bytes.result split.result (split.ensures ∙ sym (bytes_of c.args.word)) (omega arith) c.from_le_bytes.ensures
