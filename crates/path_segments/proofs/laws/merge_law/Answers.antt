use Rattle.path_segments.proofs.PathLemmas
use Rattle.path_segments.proofs.laws.merge_law.Goals as goal

pub returns : goal.returns
returns c = PathLemmas.merge_law
