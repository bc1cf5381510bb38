use Rattle.std.proofs.Common.{◌%◌, sym, ap, ◌∙◌, subst, arith}
use Rattle.column.specs.Kind.{slot}
use Rattle.indexed.specs.Gives.{Gives}
use Rattle.indexed.specs.Pieces.{padding}
use Rattle.indexed.proofs.ImageLemmas.{err_not_ok, length_ok}
use Rattle.indexed.proofs.PieceLemmas.{gives_after, length_there, padding_some}
use Rattle.indexed.proofs.Imaged.give_slice.Goals as goal

pub returns-in_err-bytes : goal.returns-in_err-bytes
returns-in_err-bytes g c =
    let a = c.args.self.now in
    absurd (err_not_ok (c.in_err-bytes.ensures ∙ length_there (g.A.AsBytes.slices a.item.now) c.args.k (g.met.A.AsBytes.formed a.item.now) c.requires a.short))

pub returns : goal.returns
returns g c =
    let ss = g.A.AsBytes.slices c.args.self.now.item.now in
    let b = c.in_ok-bytes.bytes in
    let e = ap (λ n. padding (n % 8)) (sym (length_ok ss c.args.k b c.in_ok-bytes.ensures).0) ∙ padding_some (b % 8) (omega arith) in
    gives_after (padding ((slot ss c.args.k).bytes % 8)) c.give.new.self c.give.result c.in_ok-give_words.ensures
    (subst (λ ps. Gives g.W.WriteBytes ps c.give_words.new.out c.give.new.self c.give.result) (sym e) c.give.ensures)
