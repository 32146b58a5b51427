use Rattle.dump_read.proofs.SumLemmas
use Rattle.dump_read.proofs.laws.together_law.Goals as goal

pub returns : goal.returns
returns c = record { together = SumLemmas.together_law }
