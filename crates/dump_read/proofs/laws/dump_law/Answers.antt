use Rattle.dump_read.proofs.TakingLemmas as taken
use Rattle.dump_read.proofs.laws.dump_law.Goals as goal

pub returns : goal.returns
returns c = taken.dumps
