use Rattle.result_laws.proofs.AskedLemmas
use Rattle.result_laws.proofs.laws.given_ask_law.Goals as goal

pub returns : goal.returns
returns c = AskedLemmas.given_ask_law
