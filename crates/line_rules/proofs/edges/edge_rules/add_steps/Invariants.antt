use Rattle.line_rules.proofs.StepLemmas.{Walked}
use Rattle.line_rules.proofs.edges.edge_rules.add_steps.Given as goal

abbrev pub invariant-loop-at : goal.invariant-loop-at
invariant-loop-at l = Walked l.fn.table l.table l.path l.at l.steps
