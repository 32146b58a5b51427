use Rattle.std.proofs.Common.{◌≡◌, map, take}
use Rattle.relationships.specs.Relationship.{label_of}
use Rattle.peering.proofs.relabelling.first_labels.Given as goal

abbrev pub invariant-loop-end : goal.invariant-loop-end
invariant-loop-end l = l.labels.items ≡ map label_of (take l.end-index l.ends)
