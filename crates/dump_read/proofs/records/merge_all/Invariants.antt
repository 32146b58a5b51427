use Rattle.std.proofs.Common.{true}
use Rattle.dump_read.proofs.Merges.{MergedSoFar}
use Rattle.dump_read.proofs.records.merge_all.Given as goal

abbrev pub invariant-entries : goal.invariant-entries
invariant-entries l = MergedSoFar l.sets (λ _. true) l.fn.entries.entries l.left.entries l.batch

abbrev pub decreases-entries : goal.decreases-entries
decreases-entries l = l.left.left
