use Rattle.peering.proofs.Steps.{AreSettled}
use Rattle.peering.proofs.relabelling.relabel.Given as goal

abbrev pub invariant-loop-place : goal.invariant-loop-place
invariant-loop-place l = AreSettled l.graph l.kept l.ratio l.orientation l.opened.items l.place l.labels
