use Rattle.result_laws.proofs.PossibleLemmas
use Rattle.result_laws.proofs.laws.open_edge_law.Goals as goal

pub returns : goal.returns
returns c = PossibleLemmas.open_edge_law
