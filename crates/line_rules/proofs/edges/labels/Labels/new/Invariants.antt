use Rattle.std.proofs.Common.{◌≡◌, take}
use Rattle.line_rules.specs.PathSteps.{labels_on}
use Rattle.line_rules.proofs.edges.labels.Labels.new.Given as goal

abbrev pub invariant-loop-line : goal.invariant-loop-line
invariant-loop-line l = l.labels.items ≡ labels_on (take l.line-index l.lines)
