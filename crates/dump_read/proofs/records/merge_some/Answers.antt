use Rattle.std.proofs.Common.{Ok, subst}
use Rattle.rib_bodies.specs.Reading.{IsNext}
use Rattle.dump_read.specs.LastPeers.{entry_counts}
use Rattle.dump_read.proofs.Merges.{one_met}
use Rattle.dump_read.proofs.records.merge_some.Goals as goal

pub entries-preserved : goal.entries-preserved
entries-preserved c =
    let old = c.entries.left in
    let new = c.next.new.self in
    let next = subst (λ x. IsNext (Ok x) old new) c.in-Some.is c.in_ok-entry.ensures in
    one_met c.args.wanted.now.sets (entry_counts c.args.wanted.now c.args.family c.args.peers.now.marks) c.args.entries.entries old.entries new.entries c.entries.batch
    c.merge_one.new.batch c.in-Some.entry next.1 c.in_ok-merge_one.ensures.routes c.merge_one.ensures.places c.entries.invariant
