use Rattle.std.proofs.Common.{rules}
use Rattle.dump_read.proofs.reading.take_file.Goals as goal

pub returns-clause-read : goal.returns-clause-read
returns-clause-read g c = rw c.over-frames.ensures.same at c.take_records.ensures.read

pub returns-clause-counted : goal.returns-clause-counted
returns-clause-counted g c = rw c.over-frames.ensures.same at c.take_records.ensures.counted

pub returns-clause-stopped : goal.returns-clause-stopped
returns-clause-stopped g c = rw c.over-frames.ensures.same at c.take_records.ensures.stopped

pub returns-clause-some : goal.returns-clause-some
returns-clause-some g c = rw c.over-frames.ensures.same at c.take_records.ensures.some

pub returns-clause-bounded : goal.returns-clause-bounded
returns-clause-bounded g c = let h = rw c.over-frames.ensures.same at c.take_records.ensures.bounded in search rules

pub returns-clause-shown : goal.returns-clause-shown
returns-clause-shown g c = let h = rw c.over-frames.ensures.same at c.take_records.ensures.shown in search rules
