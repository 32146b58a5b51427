use Rattle.as_rel.proofs.KeptLemmas
use Rattle.as_rel.proofs.laws.kept_free_law.Goals as goal

pub returns-clause-free : goal.returns-clause-free
returns-clause-free c = KeptLemmas.kept_free_law

pub returns-clause-ends : goal.returns-clause-ends
returns-clause-ends c = KeptLemmas.ends_law
