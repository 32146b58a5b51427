use Rattle.tor_digraph.specs.Search.{steps_of}
use Rattle.tor_clauses.proofs.ArcSeeks.{IsSeek}
use Rattle.tor_clauses.proofs.triple_table.has_arc.Given as goal

abbrev pub invariant-loop-next : goal.invariant-loop-next
invariant-loop-next l = IsSeek l.digraph.arcs l.fn.tail l.head l.next

abbrev pub decreases-loop-next : goal.decreases-loop-next
decreases-loop-next l = steps_of (λ a. a) l.next
