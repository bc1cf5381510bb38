use Rattle.std.proofs.Common.{true, length, refl, ap, ◌∙◌}
use Rattle.column.specs.Column.{cells}
use Rattle.boolean.specs.Bools.{bools_takes}
use Rattle.offsets.specs.Strides.{strides_takes}
use Rattle.kinds.specs.Kinds.{erase_format}
use Rattle.boot.proofs.BootLemmas.{same_kind}
use Rattle.boot.proofs.convert.convert_image.Goals as goal
use Rattle.boot.proofs.convert.convert_image.Goals.{in-BlockTable, in-EraseMap, in-SpareCount}

pub returns : goal.returns
returns c = elim c.match-kind.branch [
  | in-BlockTable w ↦ rw (w.in-BlockTable.is, w.result-is, w.area-is) (same_kind _ c.args.image.now c.args.area.now w.converted.new.area w.converted.result w.block_table.ensures.format w.block_table.ensures.takes w.block_table.ensures.same w.converted.ensures)
  | in-EraseMap w ↦ rw (w.in-EraseMap.is, w.result-is, w.area-is) (same_kind (λ x. true) {F = erase_format} {t = λ a. bools_takes strides_takes a} c.args.image.now c.args.area.now w.converted-in-EraseMap.new.area w.converted-in-EraseMap.result refl refl (w.new-in-EraseMap-2.ensures.same ∙ ap cells (w.new-in-EraseMap.ensures.same ∙ ap length w.new.ensures.same)) w.converted-in-EraseMap.ensures)
  | in-SpareCount w ↦ rw (w.in-SpareCount.is, w.result-is, w.area-is) w.converted-in-SpareCount.ensures
]
