use Rattle.std.proofs.Common.{length, take}
use Rattle.line_rules.specs.GivenLabels.{HasLabelsAt}
use Rattle.line_rules.specs.Breaches.{First}
use Rattle.line_rules.proofs.edges.given_labels.find_contradicted.Given as goal

abbrev pub invariant-loop-given : goal.invariant-loop-given
invariant-loop-given l = First (HasLabelsAt l.labels (take l.given-index l.givens)) (length l.labels) l.first
