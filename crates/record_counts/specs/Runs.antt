-- Counts, and beside them the records of one type that were counted last.
use Rattle.std.specs.Prelude.{Option, Some, None}
use Rattle.record_counts.specs.declared.record_counts.Run.{Run}
use Rattle.record_counts.specs.Counting.{Counts, with_more}

-- the counts with those records besides
abbrev pub with_run : Option Run → Counts → Counts
with_run None counts = counts
with_run (Some run) counts = with_more run.record_type run.records counts
