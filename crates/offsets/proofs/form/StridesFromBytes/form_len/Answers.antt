use Rattle.std.proofs.Common.{[], ◌∷◌, length, ap, arith}
use Rattle.column.specs.Run.{word_run}
use Rattle.decode.specs.Decode.{slice_in}
use Rattle.read.specs.Form.{list_of}
use Rattle.offsets.proofs.FormLemmas.{bounds_stand, strides-is, strides_short}
use Rattle.offsets.proofs.StridesLemmas.{length-strides}
use Rattle.offsets.proofs.form.StridesFromBytes.form_len.Goals as goal

pub returns : goal.returns
returns c ws h =
    let t = c.args.form.now in
    omega (
      arith,
      c.form_len.ensures ws (bounds_stand t ws h),
      c.len.ensures,
      strides_short t ws h,
      ap length (strides-is t ws h),
      length-strides t.head.stride t.head.length (list_of word_run (slice_in ws t.bounds ∷ [])),
    )
