use Rattle.std.proofs.Common.{◌%◌, get_or, Some, sym, ap, ◌∙◌}
use Rattle.storage.proofs.SinkLemmas.{bytes_of}
use Rattle.read.proofs.RunFormLemmas.{byte_stored}
use Rattle.read.proofs.element.U8Stored.read.Goals as goal

pub returns : goal.returns
returns g c h =
    ap (λ bs. Some (get_or bs (c.args.i % 8) 0)) (c.to_le_bytes.ensures ∙ sym (bytes_of c.in_ok-word.word))
    ∙ ap Some (byte_stored (g.S.Store.words c.args.store.now) c.args.from c.args.i c.in_ok-word.word c.in_ok-word.ensures)
