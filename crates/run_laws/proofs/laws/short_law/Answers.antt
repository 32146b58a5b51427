use Rattle.run_laws.proofs.ShortRuns as lemmas
use Rattle.run_laws.proofs.laws.short_law.Goals as goal

pub returns-clause-one_answer : goal.returns-clause-one_answer
returns-clause-one_answer c = lemmas.short_law

pub returns-clause-limits : goal.returns-clause-limits
returns-clause-limits c = lemmas.short_limit_law
