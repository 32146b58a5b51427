use Rattle.line_rules.proofs.EdgeListing.{IsListing}
use Rattle.line_rules.proofs.edges.edge_rules.add_paths.Given as goal

abbrev pub invariant-loop-place : goal.invariant-loop-place
invariant-loop-place l = IsListing l.file.paths l.place l.table l.rows
