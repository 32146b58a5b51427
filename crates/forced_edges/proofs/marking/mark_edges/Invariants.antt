use Rattle.forced_edges.proofs.MarkSteps.{IsMarking}
use Rattle.forced_edges.proofs.marking.mark_edges.Given as goal

abbrev pub invariant-loop-place : goal.invariant-loop-place
invariant-loop-place l = IsMarking l.problem.labels l.shown.items l.place l.marks
