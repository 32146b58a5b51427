use Rattle.std.proofs.Common.{◌≡◌, ◌-◌, ◌≤◌, take, length}
use Rattle.tor_clauses.specs.Triples.{triples_on}
use Rattle.tor_clauses.specs.Tables.{with_triples, having}
use Rattle.tor_clauses.proofs.clauses.Clauses.add_triples.Given as goal

abbrev pub invariant-loop-next : goal.invariant-loop-next
invariant-loop-next l = record {
  from : 1 ≤ l.next;
  added : l.self ≡ having l.initial.self (with_triples l.initial.self.triples (take (l.next - 1) (triples_on l.graph l.path)));
}

abbrev pub decreases-loop-next : goal.decreases-loop-next
decreases-loop-next l = length l.steps - l.next
