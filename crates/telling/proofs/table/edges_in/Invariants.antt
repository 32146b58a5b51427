use Rattle.telling.proofs.DownLemmas.{HasEdgesOf}
use Rattle.telling.proofs.table.edges_in.Given as goal

-- the edges of the lines so far are there, and no others
abbrev pub invariant-loop-line : goal.invariant-loop-line
invariant-loop-line l = HasEdgesOf l.file l.line-index l.table
