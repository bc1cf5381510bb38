use Rattle.std.proofs.Common.{length, ap}
use Rattle.beside.proofs.fill.encoded_in.Goals as goal

pub returns-in-WordRun-clause-answer : goal.returns-in-WordRun-clause-answer
returns-in-WordRun-clause-answer c = rw (c.in-WordRun.is, ← ap length c.new.ensures.same) c.encoded.ensures.answer

pub returns-in-WordRun-clause-after : goal.returns-in-WordRun-clause-after
returns-in-WordRun-clause-after c = rw (c.in-WordRun.is, ← ap length c.new.ensures.same) c.encoded.ensures.after

pub returns-in-ByteRun-clause-answer : goal.returns-in-ByteRun-clause-answer
returns-in-ByteRun-clause-answer c = rw (c.in-ByteRun.is, ← ap length c.new-in-ByteRun.ensures.same) c.encoded-in-ByteRun.ensures.answer

pub returns-in-ByteRun-clause-after : goal.returns-in-ByteRun-clause-after
returns-in-ByteRun-clause-after c = rw (c.in-ByteRun.is, ← ap length c.new-in-ByteRun.ensures.same) c.encoded-in-ByteRun.ensures.after

pub returns-in-WordMarks-clause-answer : goal.returns-in-WordMarks-clause-answer
returns-in-WordMarks-clause-answer c = rw (c.in-WordMarks.is, ← ap length c.new-in-WordMarks.ensures.same) (rw c.new-in-WordMarks-2.ensures.same at c.encoded-in-WordMarks.ensures.answer)

pub returns-in-WordMarks-clause-after : goal.returns-in-WordMarks-clause-after
returns-in-WordMarks-clause-after c = rw (c.in-WordMarks.is, ← ap length c.new-in-WordMarks.ensures.same) (rw c.new-in-WordMarks-2.ensures.same at c.encoded-in-WordMarks.ensures.after)
