use Rattle.run_laws.proofs.TopRuns as lemmas
use Rattle.run_laws.proofs.laws.top_law.Goals as goal

pub returns-clause-of_dumps : goal.returns-clause-of_dumps
returns-clause-of_dumps c = lemmas.top_law c.bounds_law.ensures c.faithful_law.ensures.table c.top_result_law.ensures

pub returns-clause-on_earlier : goal.returns-clause-on_earlier
returns-clause-on_earlier c = lemmas.top_on_earlier_law c.bounds_law.ensures c.top_result_law.ensures c.top_resumed_law.ensures

pub returns-clause-one_knowledge : goal.returns-clause-one_knowledge
returns-clause-one_knowledge c = lemmas.one_knowledge_law
