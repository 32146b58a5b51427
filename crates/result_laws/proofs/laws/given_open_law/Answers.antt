use Rattle.result_laws.proofs.PossibleLemmas
use Rattle.result_laws.proofs.laws.given_open_law.Goals as goal

pub returns : goal.returns
returns c = PossibleLemmas.given_open_law
