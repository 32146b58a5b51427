use Rattle.path_clean.proofs.Judged as judged
use Rattle.path_clean.proofs.laws.judged_last.Goals as goal

pub returns : goal.returns
returns c = judged.judged_last
