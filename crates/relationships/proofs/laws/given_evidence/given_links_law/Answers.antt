use Rattle.relationships.proofs.GivenWalks
use Rattle.relationships.proofs.laws.given_evidence.given_links_law.Goals as goal

pub returns : goal.returns
returns c = GivenWalks.given_links_law
