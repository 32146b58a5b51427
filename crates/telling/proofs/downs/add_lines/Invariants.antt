use Rattle.telling.specs.Downs.{AreDowns}
use Rattle.telling.proofs.DownLemmas.{HasLinesTo}
use Rattle.telling.proofs.downs.add_lines.Given as goal

-- the arcs of the lines so far are there
abbrev pub invariant-loop-place : goal.invariant-loop-place
invariant-loop-place l = AreDowns l.file l.all.edges l.downs.graph l.downs.links × HasLinesTo l.file l.all.edges l.downs.graph.arcs l.place
