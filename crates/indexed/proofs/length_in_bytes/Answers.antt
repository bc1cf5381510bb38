use Rattle.std.proofs.Common.{arith}
use Rattle.indexed.proofs.ImageLemmas.{words_ok}
use Rattle.indexed.proofs.length_in_bytes.Goals as goal

pub overflow_mul-result : goal.overflow_mul-result
overflow_mul-result g c = omega (arith, words_ok (g.A.AsBytes.slices c.args.item.now) _ c.in_ok-length_in_words.ensures)
