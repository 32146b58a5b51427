use Rattle.dump_read.proofs.TakingLemmas as taken
use Rattle.dump_read.proofs.laws.taking_law.Goals as goal

pub returns-clause-taking : goal.returns-clause-taking
returns-clause-taking c = taken.taking

pub returns-clause-taking_on : goal.returns-clause-taking_on
returns-clause-taking_on c = taken.further
