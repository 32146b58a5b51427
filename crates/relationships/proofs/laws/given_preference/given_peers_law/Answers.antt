use Rattle.relationships.proofs.GivenPeerings
use Rattle.relationships.proofs.laws.given_preference.given_peers_law.Goals as goal

pub returns : goal.returns
returns c = GivenPeerings.given_peers_law
