use Rattle.std.proofs.Common.{Ok, true, refl, subst}
use Rattle.rib_bodies.specs.Reading.{IsNext}
use Rattle.dump_read.proofs.Merges.{one_merged}
use Rattle.dump_read.proofs.records.merge_all.Goals as goal

pub entries-preserved : goal.entries-preserved
entries-preserved c =
    let old = c.entries.left in
    let new = c.next.new.self in
    let next = subst (λ x. IsNext (Ok x) old new) c.in-Some.is c.in_ok-entry.ensures in
    one_merged c.args.sets (λ _. true) c.args.entries.entries old.entries new.entries c.entries.batch c.merge.new.self c.in-Some.entry next.1 refl
    c.in_ok-merge.ensures.routes c.merge.ensures.places c.entries.invariant
