use Rattle.tor_output.proofs.AcceptingLemmas as lemmas
use Rattle.run_laws.proofs.laws.faithful_law.Goals as goal

pub returns-clause-table : goal.returns-clause-table
returns-clause-table c = lemmas.table_law c.bounds_law.ensures

pub returns-clause-result : goal.returns-clause-result
returns-clause-result c = lemmas.faithful_law c.bounds_law.ensures c.self_acceptance_law.ensures
