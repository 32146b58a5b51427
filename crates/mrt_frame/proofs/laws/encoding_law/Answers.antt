use Rattle.mrt_frame.proofs.Cuts
use Rattle.mrt_frame.proofs.Reaches
use Rattle.mrt_frame.proofs.laws.encoding_law.Goals as goal

pub returns-clause-cut : goal.returns-clause-cut
returns-clause-cut c = Cuts.encoding_law

pub returns-clause-one_reading : goal.returns-clause-one_reading
returns-clause-one_reading c = Cuts.one_reading_law

pub returns-clause-reach : goal.returns-clause-reach
returns-clause-reach c = Reaches.reach_law
