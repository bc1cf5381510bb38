use Rattle.std.proofs.Common.{length, ap}
use Rattle.beside.proofs.fill.written_in.Goals as goal

pub returns-in-WordRun : goal.returns-in-WordRun
returns-in-WordRun c = rw (c.in-WordRun.is, ← ap length c.new.ensures.same) c.written.ensures

pub returns-in-ByteRun : goal.returns-in-ByteRun
returns-in-ByteRun c = rw (c.in-ByteRun.is, ← ap length c.new-in-ByteRun.ensures.same) c.written-in-ByteRun.ensures

pub returns-in-WordMarks : goal.returns-in-WordMarks
returns-in-WordMarks c = rw (c.in-WordMarks.is, ← ap length c.new-in-WordMarks.ensures.same) (rw c.new-in-WordMarks-2.ensures.same at c.written-in-WordMarks.ensures)
