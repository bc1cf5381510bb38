-- The block table: ends as strides, bad marks as bools over a run of words, wear classes as a run of bytes.
use Rattle.std.specs.Prelude.{Bool, List}
use Rattle.boolean.specs.Bools.{bools_format, bools_takes}
use Rattle.column.specs.Column.{Areas}
use Rattle.column.specs.Element.{unsigned}
use Rattle.column.specs.Kind.{Format}
use Rattle.tuple.specs.Pair.{pair_format, pair_takes}
use Rattle.column.specs.Run.{run_format, run_takes, word_run}
use Rattle.offsets.specs.Strides.{strides_format, strides_takes}
use Rattle.card.specs.Records.{Block}

abbrev pub block_format : Format Block
block_format = pair_format (strides_format word_run) (pair_format (bools_format word_run) (run_format (unsigned 1)))

-- what a block table takes next, by the sizes of its three areas: bounds, words of bad marks, wear classes
abbrev pub block_takes : Areas → List Block → Block → Bool
block_takes = pair_takes strides_takes (pair_takes (bools_takes run_takes) run_takes)
