use Rattle.std.proofs.Common.{◌≡◌, ◌-◌, ◌*◌, ◌%◌, ◌^◌, Ok, ap, ◌∙◌, arith}
use Rattle.std.proofs.lemmas.Nat.{one_shl}
use Rattle.std.proofs.lemmas.Result.{err_from_is_err_and}
use Rattle.read.proofs.RunFormLemmas.{run_word, run_word_begins, run_word_part, run_word_past}
use Rattle.read.proofs.run.RunFromBytes.form_slice_word.Goals as goal

pub returns-in_err-word : goal.returns-in_err-word
returns-in_err-word g c h =
    let p = err_from_is_err_and c.from_residual.result c.from_residual.ensures.1 in
    rw (p.1, p.2) (run_word_past g.met.T.Element.one_to_one h c.args.k c.args.i _ (omega arith) (c.in_err-word.ensures h.keeps))

pub returns-then-left-ge8 : goal.returns-then-left-ge8
returns-then-left-ge8 g c h =
    let b = run_word_begins g.met.T.Element.one_to_one h c.args.k c.args.i c.in_ok-word.word (omega arith) (c.in_ok-word.ensures h.keeps) in
    run_word g.met.T.Element.one_to_one h c.args.k c.args.i c.in_ok-word.word (omega arith) (c.in_ok-word.ensures h.keeps) (omega arith)

pub returns : goal.returns
returns g c h =
    let b = run_word_begins g.met.T.Element.one_to_one h c.args.k c.args.i c.in_ok-word.word (omega arith) (c.in_ok-word.ensures h.keeps) in
    let l : c.saturating_sub-left.result ≡ c.args.form.now.bytes - 8 * c.args.i = omega arith in
    ap (λ n. Ok (c.in_ok-word.word % n)) (one_shl (8 * c.saturating_sub-left.result) 64 (omega arith))
    ∙ ap (λ n. Ok (c.in_ok-word.word % 2 ^ (8 * n))) l
    ∙ run_word_part g.met.T.Element.one_to_one h c.args.k c.args.i c.in_ok-word.word (omega arith) (c.in_ok-word.ensures h.keeps) (omega arith)
