use Rattle.std.proofs.Common.{◌≡◌, ◌≤◌, map, take}
use Rattle.relationships.specs.Relationship.{slopes}
use Rattle.result_rules.specs.File.{its_labels}
use Rattle.telling.specs.Told.{going_of}
use Rattle.telling.proofs.goings.goings_along.Given as goal

-- the steps so far go so
abbrev pub invariant-loop-at : goal.invariant-loop-at
invariant-loop-at l = (1 ≤ l.at) × (l.goings ≡ map going_of (slopes (its_labels l.file) (take l.at l.path)))
