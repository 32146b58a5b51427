use Rattle.path_clean.proofs.Judged as judged
use Rattle.path_clean.proofs.laws.paths_are_clean.Goals as goal

pub returns : goal.returns
returns c = judged.paths_are_clean
