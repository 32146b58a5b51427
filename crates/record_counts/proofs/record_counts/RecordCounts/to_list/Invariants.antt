use Rattle.std.proofs.Common.{◌≡◌, ◌++◌}
use Rattle.record_counts.specs.Counting.{type_counts}
use Rattle.record_counts.proofs.record_counts.RecordCounts.to_list.Given as goal

-- those that are listed, with those that are left, are all
abbrev pub invariant-loop-record_type : goal.invariant-loop-record_type
invariant-loop-record_type l = l.list ++ type_counts l.record_type-iterator ≡ type_counts l.fn.self
