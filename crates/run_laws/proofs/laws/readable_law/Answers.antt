use Rattle.tor_output.proofs.ReadableLemmas as lemmas
use Rattle.run_laws.proofs.laws.readable_law.Goals as goal

pub returns-clause-dumps : goal.returns-clause-dumps
returns-clause-dumps c = lemmas.dumps_readable

pub returns-clause-runs : goal.returns-clause-runs
returns-clause-runs c = lemmas.readable
