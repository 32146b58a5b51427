use Rattle.std.proofs.Common.{All, length, take, ◌-◌}
use Rattle.tor_clauses.specs.Tables.{IsSatisfied}
use Rattle.tor_clauses.proofs.triple_table.TripleTable.are_satisfied.Given as goal

abbrev pub invariant-loop-place : goal.invariant-loop-place
invariant-loop-place l = All (IsSatisfied l.ends) (take l.place l.self.triples)

abbrev pub decreases-loop-place : goal.decreases-loop-place
decreases-loop-place l = length l.self.triples - l.place
