use Rattle.tor_clauses.specs.Formulas.{FitsGraph}
use Rattle.value_tests.proofs.of_graphs.add_paths.Given as goal

abbrev pub invariant-loop-place : goal.invariant-loop-place
invariant-loop-place l = FitsGraph l.graph l.clauses
