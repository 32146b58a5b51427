use Rattle.mrt_frame.proofs.CountedLemmas
use Rattle.mrt_frame.proofs.laws.counts_law.Goals as goal

pub returns-clause-file : goal.returns-clause-file
returns-clause-file c = CountedLemmas.file_counts_law

pub returns-clause-together : goal.returns-clause-together
returns-clause-together c = CountedLemmas.counts_together_law
