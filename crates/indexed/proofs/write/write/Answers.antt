use Rattle.std.proofs.Common.{refl, rules}
use Rattle.std.specs.List.{flat_map}
use Rattle.indexed.specs.Pieces.{slice_pieces}
use Rattle.indexed.proofs.ImageLemmas.{words_ok}
use Rattle.indexed.proofs.PieceLemmas.{gives_after, stop_before, stops, written}
use Rattle.indexed.proofs.write.write.Goals as goal

pub returns-in_err-give_index : goal.returns-in_err-give_index
returns-in_err-give_index g c =
    let ss = g.A.AsBytes.slices c.args.item.now in
    written ss _ c.give_index.new.out _ refl (g.met.A.AsBytes.formed c.args.item.now) (words_ok ss _ c.in_ok-length_in_words.ensures).1
    (stops c.from_residual-in_err-give_index.result c.from_residual-in_err-give_index.ensures.1 (stop_before (flat_map slice_pieces ss) c.in_err-give_index.ensures)) (search rules)

pub returns : goal.returns
returns g c =
    let ss = g.A.AsBytes.slices c.args.item.now in
    written ss _ c.give_slices.new.out c.give_slices.result refl (g.met.A.AsBytes.formed c.args.item.now) (words_ok ss _ c.in_ok-length_in_words.ensures).1
    (gives_after (flat_map slice_pieces ss) c.give_slices.new.out c.give_slices.result c.in_ok-give_index.ensures c.give_slices.ensures) (search rules)
