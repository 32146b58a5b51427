use Rattle.dump_read.proofs.LimitLemmas as limits
use Rattle.dump_read.proofs.FitLemmas as fits
use Rattle.dump_read.proofs.laws.limit_law.Goals as goal

pub returns-clause-limit : goal.returns-clause-limit
returns-clause-limit c = limits.refused

pub returns-clause-fit : goal.returns-clause-fit
returns-clause-fit c = fits.fitting
