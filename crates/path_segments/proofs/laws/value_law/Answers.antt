use Rattle.path_segments.proofs.Values
use Rattle.path_segments.proofs.laws.value_law.Goals as goal

pub returns : goal.returns
returns c = Values.value_law
