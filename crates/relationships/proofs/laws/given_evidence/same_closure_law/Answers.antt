use Rattle.relationships.proofs.GivenWalks
use Rattle.relationships.proofs.laws.given_evidence.same_closure_law.Goals as goal

pub returns : goal.returns
returns c = GivenWalks.same_closure_law
