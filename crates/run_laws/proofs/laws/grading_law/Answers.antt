use Rattle.tor_output.proofs.GradingLemmas as lemmas
use Rattle.run_laws.proofs.laws.grading_law.Goals as goal

pub returns-clause-free : goal.returns-clause-free
returns-clause-free c = lemmas.grading_law

pub returns-clause-ends : goal.returns-clause-ends
returns-clause-ends c = lemmas.result_ends_law
