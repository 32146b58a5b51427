use Rattle.dump_read.specs.LastPeers.{entry_counts}
use Rattle.dump_read.proofs.Merges.{MergedSoFar}
use Rattle.dump_read.proofs.records.merge_some.Given as goal

abbrev pub invariant-entries : goal.invariant-entries
invariant-entries l = MergedSoFar l.wanted.sets (entry_counts l.wanted l.family l.peers.marks) l.fn.entries.entries l.left.entries l.batch

abbrev pub decreases-entries : goal.decreases-entries
decreases-entries l = l.left.left
