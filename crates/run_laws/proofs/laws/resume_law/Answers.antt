use Rattle.run_laws.proofs.ResumeLemmas as lemmas
use Rattle.run_laws.proofs.laws.resume_law.Goals as goal

pub returns-clause-begun : goal.returns-clause-begun
returns-clause-begun c = lemmas.of_dumps_law c.bounds_law.ensures

pub returns-clause-resumed : goal.returns-clause-resumed
returns-clause-resumed c = lemmas.resume_law c.bounds_law.ensures

pub returns-clause-in_parts : goal.returns-clause-in_parts
returns-clause-in_parts c = lemmas.in_parts_law

pub returns-clause-accepted : goal.returns-clause-accepted
returns-clause-accepted c = lemmas.acceptance_law c.bounds_law.ensures c.self_acceptance_law.ensures c.one_value.ensures
