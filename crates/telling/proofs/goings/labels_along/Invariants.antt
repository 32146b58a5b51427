use Rattle.std.proofs.Common.{◌≡◌, length}
use Rattle.result_rules.specs.File.{its_labels}
use Rattle.telling.specs.Labelling.{HaveLabelsTo}
use Rattle.telling.proofs.goings.labels_along.Given as goal

-- each edge that a line so far names has its label
abbrev pub invariant-loop-line : goal.invariant-loop-line
invariant-loop-line l =
    (length l.labels.items ≡ length l.table) × HaveLabelsTo (its_labels l.file) l.file.edges l.line-index l.table l.labels.items
