use Rattle.tor_output.proofs.SeenLemmas as lemmas
use Rattle.run_laws.proofs.laws.seen_law.Goals as goal

pub returns-clause-dumps : goal.returns-clause-dumps
returns-clause-dumps c = lemmas.dumps_law

pub returns-clause-runs : goal.returns-clause-runs
returns-clause-runs c = lemmas.seen_law
