use Rattle.dump_read.proofs.Countings as countings
use Rattle.dump_read.proofs.laws.all_count_law.Goals as goal

pub returns : goal.returns
returns c = countings.all_count
