use Rattle.std.proofs.Common.{◌+◌, arith}
use Rattle.std.specs.List.{between}
use Rattle.indexed.proofs.ImageLemmas.{image_left, encode_answer_lem, encode_after, length-image, length-index, length-part, length-words_of, words_ok}
use Rattle.indexed.proofs.encode.Goals as goal

pub returns : goal.returns
returns g c =
    let ss = g.A.AsBytes.slices c.args.item.now in
    let a = c.args.area.now in
    let w = c.in_ok-words.ensures in
    record {
      answer = encode_answer_lem ss a c.args.place _ w (omega arith);
      after = encode_after ss a c.args.place c.in_ok-words.words _ c.write_slices.new.part w (omega arith) (omega arith)
          (image_left ss (between c.args.place (c.args.place + c.in_ok-words.words) a) c.write_index.new.part c.write_slices.new.part _ (omega (arith, c.slices.ensures, (words_ok ss _ w).1, length-image ss, length-index ss)) (length-part ss a c.args.place _ w (omega arith)) c.write_index.ensures.after c.write_slices.ensures.after);
    }

pub write_slices-requires : goal.write_slices-requires
write_slices-requires g c =
    let ss = g.A.AsBytes.slices c.args.item.now in
    let w = c.in_ok-words.ensures in
    omega (arith, c.slices.ensures, words_ok ss _ w, length-image ss, length-words_of ss, length-part ss c.args.area.now c.args.place _ w (omega arith), c.write_index.auto.part)
