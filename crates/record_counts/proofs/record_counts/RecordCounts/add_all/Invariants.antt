use Rattle.std.proofs.Common.{◌≡◌}
use Rattle.record_counts.specs.Counting.{counts_together}
use Rattle.record_counts.proofs.record_counts.RecordCounts.add_all.Given as goal

-- what was counted so far, with what is left, is what is counted in the end
abbrev pub invariant-loop-record_type : goal.invariant-loop-record_type
invariant-loop-record_type l = counts_together l.self l.record_type-iterator ≡ counts_together l.fn.self l.fn.others
