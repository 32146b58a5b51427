use Rattle.run_laws.proofs.GrowingRuns as lemmas
use Rattle.run_laws.proofs.laws.growing_law.Goals as goal

pub returns-clause-resumed : goal.returns-clause-resumed
returns-clause-resumed c = lemmas.resumed_stays_law c.bounds_law.ensures c.self_acceptance_law.ensures c.forced_stays_law.ensures

pub returns-clause-added : goal.returns-clause-added
returns-clause-added c = lemmas.added_stays_law c.forced_stays_law.ensures
