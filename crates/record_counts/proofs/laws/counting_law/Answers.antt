use Rattle.record_counts.proofs.CountedLemmas
use Rattle.record_counts.proofs.laws.counting_law.Goals as goal

pub returns-clause-more : goal.returns-clause-more
returns-clause-more c = CountedLemmas.more_law

pub returns-clause-together : goal.returns-clause-together
returns-clause-together c = CountedLemmas.together_law

pub returns-clause-counted : goal.returns-clause-counted
returns-clause-counted c = CountedLemmas.counted_law
