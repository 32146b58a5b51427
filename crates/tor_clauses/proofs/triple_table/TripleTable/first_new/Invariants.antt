use Rattle.std.proofs.Common.{◌≡◌, ◌-◌, Some}
use Rattle.std.specs.Prelude.{slice_get}
use Rattle.as_graph.specs.EdgeSteps.{EdgeStep}
use Rattle.tor_clauses.specs.Literals.{node_of}
use Rattle.tor_clauses.specs.Tables.{AreKnownOn, lit_at}
use Rattle.tor_clauses.proofs.triple_table.TripleTable.first_new.Given as goal

abbrev pub invariant-loop-next : goal.invariant-loop-next
invariant-loop-next l = record {
  first : (s : EdgeStep) → slice_get l.steps (l.next - 1) ≡ Some s → l.first ≡ node_of (lit_at s);
  known : AreKnownOn l.self.triples l.steps l.from l.next;
}
