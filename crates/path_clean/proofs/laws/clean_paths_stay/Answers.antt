use Rattle.path_clean.proofs.Judged as judged
use Rattle.path_clean.proofs.laws.clean_paths_stay.Goals as goal

pub returns : goal.returns
returns c = judged.clean_paths_stay
