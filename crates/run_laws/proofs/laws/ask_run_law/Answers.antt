use Rattle.run_laws.proofs.AskRuns as lemmas
use Rattle.run_laws.proofs.laws.ask_run_law.Goals as goal

pub returns : goal.returns
returns c = lemmas.ask_run_law c.bounds_law.ensures c.faithful_law.ensures.table c.given_ask_law.ensures
