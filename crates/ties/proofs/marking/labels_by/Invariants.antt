use Rattle.std.proofs.Common.{◌≡◌, map, take}
use Rattle.relationships.specs.Relationship.{label_of}
use Rattle.ties.proofs.marking.labels_by.Given as goal

abbrev pub invariant-loop-end : goal.invariant-loop-end
invariant-loop-end l = l.labels.items ≡ map label_of (take l.end-index l.ends)
