use Rattle.relationships.proofs.GivenWalks
use Rattle.relationships.proofs.laws.given_evidence.no_givens_law.Goals as goal

pub returns : goal.returns
returns c = GivenWalks.no_givens_law
