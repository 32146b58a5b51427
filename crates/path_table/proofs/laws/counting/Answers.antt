use Rattle.path_table.proofs.CountingLemmas as counted
use Rattle.path_table.proofs.laws.counting.Goals as goal

pub returns : goal.returns
returns c = counted.counting
