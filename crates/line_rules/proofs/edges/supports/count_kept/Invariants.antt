use Rattle.std.proofs.Common.{take}
use Rattle.relationships.specs.Graph.{support}
use Rattle.result_rules.specs.File.{its_edges}
use Rattle.line_rules.specs.Tables.{AreCounts, kept_in}
use Rattle.line_rules.proofs.edges.supports.count_kept.Given as goal

abbrev pub invariant-loop-place : goal.invariant-loop-place
invariant-loop-place l = AreCounts (its_edges l.file) (support (kept_in (take l.place l.file.paths))) l.counts.items
