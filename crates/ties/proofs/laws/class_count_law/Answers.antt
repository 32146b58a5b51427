use Rattle.ties.proofs.Counts
use Rattle.ties.proofs.laws.class_count_law.Goals as goal

pub returns : goal.returns
returns c = Counts.class_count_law
