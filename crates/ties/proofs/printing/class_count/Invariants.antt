use Rattle.std.proofs.Common.{◌≡◌, take}
use Rattle.ties.specs.TiesText.{class_count}
use Rattle.ties.proofs.printing.class_count.Given as goal

abbrev pub invariant-loop-line : goal.invariant-loop-line
invariant-loop-line l = l.greatest ≡ class_count (take l.line-index l.lines)
